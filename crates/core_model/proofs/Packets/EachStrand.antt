-- What each strand of every run has, where main has it and all that steps do to strands keeps it.
use Rattle.std.proofs.Common.{◌≡◌, ℕ, List, [], ◌∷◌, Option, Some, None, refl, sym, ap, ◌∙◌, subst, false, ⊎_elim, ℤ}
use Rattle.std.specs.Prelude.{if◌then◌else◌, option_and_then}
use Rattle.word_ops.specs.declared.name.Name.{Name}
use Rattle.word_ops.specs.declared.step.Step.{Step}
use Rattle.word_ops.specs.declared.step.Step.TheVariants.{Act, Apply}
use Rattle.word_ops.specs.Naming.{same_name}
use Rattle.merge_law.proofs.Somes.{some_is}
use Rattle.world_model.specs.Action.{Action, Spawn, Hint}
use Rattle.world_model.specs.World.{Setting, Strand, World, main_name, lookup, strand_of, with_trap}
use Rattle.world_model.specs.Effect.{newborn, birthplace}
use Rattle.world_model.specs.Step.{due, Refusal, refusal_of, applied_at, step}
use Rattle.world_model.specs.Run.{run_from, run_of, start}
use Rattle.world_model.proofs.Names.{name_cases}
use Rattle.world_model.proofs.Shapes.{Born}
use Rattle.world_model.proofs.Steps.{Done, Acted, acted_by, Applied, applied_by, strand_after, strand_beside}

abbrev pub AllHave : (Name → Strand → Type 0) → World → Type 0
AllHave P w = (q : Name) (s : Strand) → strand_of w q ≡ Some s → P q s

-- main has it at the start, and each birth, trap, action and item that is applied keeps it
pub record IsKept (u : Setting) (P : Name → Strand → Type 0) : Type 0 where
  pub main : P main_name (newborn u.meaning.main [] 0)
  pub born : (w : World) (name : Name) (s : Strand) → strand_of w name ≡ Some s → P name s → (depth function : ℕ) (args : List ℤ) (hint : Option Hint) → due u s ≡ Some (Spawn depth function args hint) →
      refusal_of u w s (Spawn depth function args hint) ≡ None → (child : Name) → strand_of w child ≡ None → P child (newborn function args (birthplace u.nodelets s.place hint))
  pub traps : (w : World) (name : Name) (s : Strand) → strand_of w name ≡ Some s → P name s → (action : Action) → due u s ≡ Some action →
      (r : Refusal) → refusal_of u w s action ≡ Some r → P name (with_trap s r.place r.kind r.pos)
  pub acts : (w v : World) (name : Name) (s : Strand) → strand_of w name ≡ Some s → P name s → (child : Option Name) (action : Action) → due u s ≡ Some action →
      (d : Done u w name s child action v) → P name d.shape.after
  pub applies : (w v : World) (name : Name) (k : ℕ) → (a : Applied u w name k v) → P name a.strand → applied_at u w name a.strand k (a.strand.pending k) ≡ Some v → P name a.after

module _ (u : Setting) (P : Name → Strand → Type 0) (kept : IsKept u P) where
  act_has : (w v : World) (name : Name) (child : Option Name) → AllHave P w → Acted u w name child v → AllHave P v
  act_has w v name child all a q x is = ⊎_elim own beside (name_cases q name)
    where
      mine : P name a.strand
      mine = all name a.strand a.found

      own : q ≡ name → P q x
      own e = subst (λ (m : Name). P m x) (sym e) (⊎_elim
          (λ r. subst (λ (y : Strand). P name y) (some_is _ _ (sym (strand_after v w name _ r.is) ∙ ap (λ m. strand_of v m) (sym e) ∙ is))
          (kept.traps w name a.strand a.found mine a.action a.due_is r.refusal r.why))
          (λ d. subst (λ (y : Strand). P name y) (some_is _ _ (sym (strand_after v d.shape.base name d.shape.after d.shape.is) ∙ ap (λ m. strand_of v m) (sym e) ∙ is))
          (kept.acts w v name a.strand a.found mine child a.action a.due_is d))
          a.outcome)

      in_base : (d : Done u w name a.strand child a.action v) → strand_of d.shape.base q ≡ Some x → P q x
      in_base d f = ⊎_elim
          (λ same. all q x (sym same ∙ f))
          (λ (b : Born u w a.strand a.action d.shape.base q). subst (λ (y : Strand). P q y) (some_is _ _ (sym b.after ∙ f))
          (kept.born w name a.strand a.found mine b.depth b.function b.args b.hint (a.due_is ∙ ap Some b.spawn)
          (ap (refusal_of u w a.strand) (sym b.spawn) ∙ d.good) q b.before))
          (d.shape.others q)

      beside : (same_name q name ≡ false) × (same_name name q ≡ false) → P q x
      beside ne = ⊎_elim
          (λ r. all q x (sym (strand_beside v w name _ q r.is ne.0) ∙ is))
          (λ d. in_base d (sym (strand_beside v d.shape.base name d.shape.after q d.shape.is ne.0) ∙ is))
          a.outcome

  apply_has : (w v : World) (name : Name) (k : ℕ) → AllHave P w → step u w (Apply name k) ≡ Some v → Applied u w name k v → AllHave P v
  apply_has w v name k all e a q x is = ⊎_elim own beside (name_cases q name)
    where
      applied : applied_at u w name a.strand k (a.strand.pending k) ≡ Some v
      applied = sym (ap (option_and_then (λ (s : Strand). applied_at u w name s k (s.pending k))) a.found) ∙ e

      own : q ≡ name → P q x
      own f = subst (λ (m : Name). P m x) (sym f)
          (subst (λ (y : Strand). P name y) (some_is _ _ (sym (strand_after v a.base name a.after a.is) ∙ ap (λ m. strand_of v m) (sym f) ∙ is))
          (kept.applies w v name k a (all name a.strand a.found) applied))

      beside : (same_name q name ≡ false) × (same_name name q ≡ false) → P q x
      beside ne = all q x (ap (λ es. lookup q es) (sym a.strands) ∙ sym (strand_beside v a.base name a.after q a.is ne.0) ∙ is)

  pub step_has : (w v : World) (t : Step) → AllHave P w → step u w t ≡ Some v → AllHave P v
  step_has w v (Act name child) all e = act_has w v name child all (acted_by u w name child v e)
  step_has w v (Apply name k) all e = apply_has w v name k all e (applied_by u w name k v e)

  pub run_has : (told : List Step) (w v : World) → AllHave P w → run_from u w told ≡ Some v → AllHave P v
  run_has [] w v all e = subst (λ (x : World). AllHave P x) (let z : w ≡ v = cc in z) all
  run_has (t ∷ told) w v all e = go (λ x f g. run_has told x v f g) (step u w t) refl e
    where
      go : ((x : World) → AllHave P x → run_from u x told ≡ Some v → AllHave P v) → (o : Option World) → step u w t ≡ o → option_and_then (λ x. run_from u x told) o ≡ Some v → AllHave P v
      go ih None is f = absurd cc
      go ih (Some x) is f = ih x (step_has w x t all is) f

  start_has : AllHave P (start u)
  start_has q x is = ⊎_elim own beside (name_cases q main_name)
    where
      own : q ≡ main_name → P q x
      own e = subst (λ (m : Name). P m x) (sym e)
          (subst (λ (y : Strand). P main_name y) (some_is _ _ (ap (λ (m : Name). strand_of (start u) m) (sym e) ∙ is)) kept.main)

      beside : (same_name q main_name ≡ false) × (same_name main_name q ≡ false) → P q x
      beside ne = absurd (let z : None ≡ Some x = sym (ap (λ t. if t then Some (newborn u.meaning.main [] 0) else None) ne.0) ∙ is in cc)

  -- each strand of every run has it
  pub each_strand : (told : List Step) (w : World) → run_of u told ≡ Some w → AllHave P w
  each_strand told w run = run_has told (start u) w start_has run
