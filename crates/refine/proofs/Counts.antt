-- Runs of verified code and of the program that it implements have the same traffic.
use Rattle.std.proofs.Common.{◌≡◌, ℕ, List, [], ◌∷◌, ◌++◌, Option, Some, None, refl, ap, ◌∙◌, true}
use Rattle.std.specs.Prelude.{if◌then◌else◌, is_some, flat_map, option_and_then}
use Rattle.std.specs.Option.{option_map_or}
use Rattle.word_ops.specs.declared.name.Name.{Name}
use Rattle.word_ops.specs.declared.step.Step.{Step}
use Rattle.word_ops.specs.declared.step.Step.TheVariants.{Act, Apply}
use Rattle.word_ops.specs.declared.traffic.Traffic.{Traffic}
use Rattle.cilk_ast.specs.declared.program.Program.{Program}
use Rattle.threadlet_code.specs.Breaches.{is_sound}
use Rattle.codegen_expr.specs.Implements.{Implements}
use Rattle.world_model.specs.Action.{Action}
use Rattle.world_model.specs.Meaning.{Meaning}
use Rattle.world_model.specs.World.{Setting, Strand, World, strand_of}
use Rattle.world_model.specs.Step.{due, refusal_of, Refusal, step}
use Rattle.world_model.specs.Run.{start, Transition, transitions}
use Rattle.world_model.specs.Traffic.{births_of, posts_of, dones_of, turns_of, applied_of, effective, by_action, moves_in, applied_in, tally, table, traffic_of}
use Rattle.core_model.specs.Nodes.{Setup}
use Rattle.core_model.specs.Core.{setting_of}
use Rattle.refine.specs.Programs.{program_on}
use Rattle.refine.proofs.Known.{AllTake, start_known, step_known}
use Rattle.refine.proofs.Alike.{on, DueAlike, due-alike, refusal-alike}
use Rattle.refine.proofs.Runs.{coded, meant, dues, whole-same}

-- ---- one step

module _ (u : Setup) (m m' : Meaning) (w : World) (alike : DueAlike u m m' w.strands) where
  effective-alike : (q : Name) (s : Strand) → strand_of w q ≡ Some s → effective (on u m) w s ≡ effective (on u m') w s
  effective-alike q s found = go (due (on u m) s)
      ∙ ap (λ (o : Option Action). option_and_then (λ action. if is_some (refusal_of (on u m') w s action) then None else Some action) o) (due-alike u m m' q s w alike found)
    where
      go : (o : Option Action) → option_and_then (λ action. if is_some (refusal_of (on u m) w s action) then None else Some action) o
          ≡ option_and_then (λ action. if is_some (refusal_of (on u m') w s action) then None else Some action) o
      go None = refl
      go (Some action) = ap (λ (r : Option Refusal). if is_some r then None else Some action) (refusal-alike u m m' w s action)

  pub by-action-alike : {A : Type 0} (count : Name → ℕ → Action → List A) (t : Step) → by_action (on u m) w count t ≡ by_action (on u m') w count t
  by-action-alike count (Act name child) = go (strand_of w name) refl
    where
      go : (o : Option Strand) → strand_of w name ≡ o →
          option_map_or (λ s. option_map_or (count name s.place) (effective (on u m) w s) []) o [] ≡ option_map_or (λ s. option_map_or (count name s.place) (effective (on u m') w s) []) o []
      go None e = refl
      go (Some s) e = ap (λ (o : Option Action). option_map_or (count name s.place) o []) (effective-alike name s e)
  by-action-alike count (Apply name k) = refl

  pub applied-in-alike : (t : Step) → applied_in (on u m) w t ≡ applied_in (on u m') w t
  applied-in-alike (Act name child) = by-action-alike (λ _. applied_of u.nodelets) (Act name child)
  applied-in-alike (Apply name k) = refl

-- ---- all steps

module _ (u : Setup) (program : Program) (sound : is_sound u.code ≡ true) (implements : Implements u.code program) where
  abbrev a : Setting
  a = setting_of u

  abbrev b : Setting
  b = program_on u program

  -- what is the same at each known world is the same of a whole run
  all-same : {X : Type 0} (f g : Transition → List X) → ((t : Transition) → AllTake u.code t.before → f t ≡ g t) → (w : World) (told : List Step) → AllTake u.code w →
      flat_map f (transitions a w told) ≡ flat_map g (transitions a w told)
  all-same f g same w [] all = refl
  all-same f g same w (t ∷ told) all = go (step a w t) refl (λ v h. all-same f g same v told h)
    where
      go : (o : Option World) → step a w t ≡ o → ((v : World) → AllTake u.code v → flat_map f (transitions a v told) ≡ flat_map g (transitions a v told)) →
          flat_map f (option_map_or (λ v. record { before = w; done = t; after = v } ∷ transitions a v told) o [])
          ≡ flat_map g (option_map_or (λ v. record { before = w; done = t; after = v } ∷ transitions a v told) o [])
      go None e ih = refl
      go (Some v) e ih =
          ap (λ l. l ++ flat_map f (transitions a v told)) (same (record { before = w; done = t; after = v }) all)
          ∙ ap (λ l. g (record { before = w; done = t; after = v }) ++ l) (ih v (step_known u sound w v t all e))

  abbrev made : List (ℕ × ℕ) → List (ℕ × ℕ) → List (ℕ × ℕ) → List (ℕ × ℕ) → List ℕ → List ℕ → Traffic
  made moves births posts dones turns applied = record {
    n = u.nodelets;
    moves = table u.nodelets moves;
    births = table u.nodelets births;
    posts = table u.nodelets posts;
    dones = table u.nodelets dones;
    turns = tally u.nodelets turns;
    applied = tally u.nodelets applied;
  }

  abbrev counted : Setting → List Transition → Traffic
  counted v ts = made
      (flat_map (λ t. moves_in t.before t.after t.done) ts)
      (flat_map (λ t. by_action v t.before (λ _. births_of u.nodelets) t.done) ts)
      (flat_map (λ t. by_action v t.before (λ _. posts_of u.nodelets) t.done) ts)
      (flat_map (λ t. by_action v t.before (dones_of t.before) t.done) ts)
      (flat_map (λ t. by_action v t.before (λ _. turns_of) t.done) ts)
      (flat_map (λ t. applied_in v t.before t.done) ts)

  pub traffic-same : (told : List Step) → traffic_of a told ≡ traffic_of b told
  traffic-same told =
      let one = λ (t : Transition) (all : AllTake u.code t.before). dues u program sound implements t.before all in
      let ts = transitions a (start a) told in
      let pairs = λ (count : Transition → Name → ℕ → Action → List (ℕ × ℕ)).
      all-same (λ t. by_action a t.before (count t) t.done) (λ t. by_action b t.before (count t) t.done)
      (λ t all. by-action-alike u (coded u program sound implements) (meant u program sound implements) t.before (one t all) (count t) t.done) (start a) told (start_known u sound) in
      let turns = all-same (λ t. by_action a t.before (λ _. turns_of) t.done) (λ t. by_action b t.before (λ _. turns_of) t.done)
      (λ t all. by-action-alike u (coded u program sound implements) (meant u program sound implements) t.before (one t all) (λ _. turns_of) t.done) (start a) told (start_known u sound) in
      let applied = all-same (λ t. applied_in a t.before t.done) (λ t. applied_in b t.before t.done)
      (λ t all. applied-in-alike u (coded u program sound implements) (meant u program sound implements) t.before (one t all) t.done) (start a) told (start_known u sound) in
      six (flat_map (λ t. moves_in t.before t.after t.done) ts) (pairs (λ t _. births_of u.nodelets)) (pairs (λ t _. posts_of u.nodelets)) (pairs (λ t. dones_of t.before)) turns applied
      ∙ ap (λ (l : List Transition). counted b l) (whole-same u program sound implements told)
    where
      six : (moves : List (ℕ × ℕ)) {births births' posts posts' dones dones' : List (ℕ × ℕ)} {turns turns' applied applied' : List ℕ} →
          births ≡ births' → posts ≡ posts' → dones ≡ dones' → turns ≡ turns' → applied ≡ applied' → made moves births posts dones turns applied ≡ made moves births' posts' dones' turns' applied'
      six moves e f g h i = cc
