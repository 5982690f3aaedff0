-- What a step counts as in the world, and what its event adds to the counts of its nodelet.
use Rattle.std.proofs.Common.{◌≡◌, ℕ, List, [], ◌∷◌, Option, Some, refl, ap, ◌∙◌}
use Rattle.std.specs.Prelude.{if◌then◌else◌}
use Rattle.std.specs.Option.{option_map_or}
use Rattle.std.proofs.lemmas.Bool.{eq-eqb}
use Rattle.word_ops.specs.declared.name.Name.{Name}
use Rattle.word_ops.specs.declared.step.Step.{Step}
use Rattle.word_ops.specs.declared.step.Step.TheVariants.{Act}
use Rattle.world_model.specs.Action.{Action}
use Rattle.world_model.specs.World.{Strand, World, strand_of}
use Rattle.world_model.specs.Traffic.{births_of, posts_of, turns_of, applied_of, dones_of, change_of, effective, by_action, moves_in, applied_in}
use Rattle.core_model.specs.Nodes.{Setup, Node}
use Rattle.core_model.specs.Core.{setting_of}
use Rattle.core_model.proofs.Traffic.Notes.{Notes}
use Rattle.core_model.proofs.Traffic.StepCounts.{AreAt}
use Rattle.core_model.proofs.Traffic.CountsByPlay.{told_of}

-- ---- what steps count as, kind by kind

abbrev pub births_told : Setup → World → World → Step → List (ℕ × ℕ)
births_told u w w' t = by_action (setting_of u) w (λ name. births_of u.nodelets) t

abbrev pub posts_told : Setup → World → World → Step → List (ℕ × ℕ)
posts_told u w w' t = by_action (setting_of u) w (λ name. posts_of u.nodelets) t

abbrev pub dones_told : Setup → World → World → Step → List (ℕ × ℕ)
dones_told u w w' t = by_action (setting_of u) w (dones_of w) t

abbrev pub turns_told : Setup → World → World → Step → List ℕ
turns_told u w w' t = by_action (setting_of u) w (λ name. turns_of) t

abbrev pub applied_told : Setup → World → World → Step → List ℕ
applied_told u w w' t = applied_in (setting_of u) w t

-- all of them
pub record Lists : Type 0 where
  pub moves : List (ℕ × ℕ)
  pub births : List (ℕ × ℕ)
  pub posts : List (ℕ × ℕ)
  pub dones : List (ℕ × ℕ)
  pub turns : List ℕ
  pub applied : List ℕ

abbrev pub lists : List (ℕ × ℕ) → List (ℕ × ℕ) → List (ℕ × ℕ) → List (ℕ × ℕ) → List ℕ → List ℕ → Lists
lists ms bs ps ds ts rs = record { moves = ms; births = bs; posts = ps; dones = ds; turns = ts; applied = rs }

pub same_lists : (ms ms' bs bs' ps ps' ds ds' : List (ℕ × ℕ)) (ts ts' rs rs' : List ℕ) → ms ≡ ms' → bs ≡ bs' → ps ≡ ps' → ds ≡ ds' → ts ≡ ts' → rs ≡ rs' → lists ms bs ps ds ts rs ≡ lists ms' bs' ps' ds' ts' rs'
same_lists ms ms' bs bs' ps ps' ds ds' ts ts' rs rs' e1 e2 e3 e4 e5 e6 =
    ap (λ l. lists l bs ps ds ts rs) e1 ∙ ap (λ l. lists ms' l ps ds ts rs) e2 ∙ ap (λ l. lists ms' bs' l ds ts rs) e3
    ∙ ap (λ l. lists ms' bs' ps' l ts rs) e4 ∙ ap (λ l. lists ms' bs' ps' ds' l rs) e5 ∙ ap (λ l. lists ms' bs' ps' ds' ts' l) e6

-- what a step counts as that leads from world w to w'
abbrev pub counted_as : Setup → World → World → Option Step → Lists
counted_as u w w' did = record {
  moves = told_of (moves_in w w') did;
  births = told_of (births_told u w w') did;
  posts = told_of (posts_told u w w') did;
  dones = told_of (dones_told u w w') did;
  turns = told_of (turns_told u w w') did;
  applied = told_of (applied_told u w w') did;
}

-- a nodelet has counted just that, where v is what it was before and v' what it is
pub record Counts (k : ℕ) (v v' : Node) (l : Lists) : Type 0 where
  -- as far as it counts
  pub upto : Node
  pub tallies : v'.tallies ≡ upto.tallies
  pub served : v'.served ≡ upto.served
  pub notes : Notes k v upto l.moves l.births l.posts l.dones l.turns l.applied
  pub here : AreAt k l.moves l.births l.posts l.dones l.turns l.applied

-- ---- a strand that acts

-- what it counts as where it goes from one place to another, and this action has its effect, if any
abbrev pub act_lists : Setup → World → Name → ℕ → ℕ → Option Action → Lists
act_lists u w name from to e = record {
  moves = change_of from to;
  births = option_map_or (births_of u.nodelets from) e [];
  posts = option_map_or (posts_of u.nodelets from) e [];
  dones = option_map_or (dones_of w name from) e [];
  turns = option_map_or (turns_of from) e [];
  applied = option_map_or (applied_of u.nodelets from) e [];
}

pub act_counted : (u : Setup) (w w' : World) (name : Name) (child : Option Name) (s s' : Strand) (e : Option Action) → strand_of w name ≡ Some s → strand_of w' name ≡ Some s' → effective (setting_of u) w s ≡ e →
    counted_as u w w' (Some (Act name child)) ≡ act_lists u w name s.place s'.place e
act_counted u w w' name child s s' e known now acts = ap (λ o. from o (strand_of w' name)) known ∙ ap (from (Some s)) now ∙ ap (act_lists u w name s.place s'.place) acts
  where
    by : {A : Type 0} → (Name → ℕ → Action → List A) → Option Strand → List A
    by count o = option_map_or (λ (y : Strand). option_map_or (count name y.place) (effective (setting_of u) w y) []) o []

    from : Option Strand → Option Strand → Lists
    from o o' = record {
      moves = option_map_or (λ (y : Strand). option_map_or (λ (t : Strand). change_of y.place t.place) o' []) o [];
      births = by (λ r. births_of u.nodelets) o;
      posts = by (λ r. posts_of u.nodelets) o;
      dones = by (dones_of w) o;
      turns = by (λ r. turns_of) o;
      applied = by (λ r. applied_of u.nodelets) o;
    }

-- a strand that stays where it is changes no place
pub no_change : (p : ℕ) → change_of p p ≡ []
no_change p = ap (λ t. if t then [] else (p, p) ∷ []) (eq-eqb p p refl)
