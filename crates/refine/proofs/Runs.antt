-- Runs of verified code and of the program that it implements are the same.
use Rattle.std.proofs.Common.{◌≡◌, ℕ, ◌<◌, List, [], ◌∷◌, length, Option, Some, None, refl, ap, ◌∙◌, subst, arith, Bool, true, ⊎_elim}
use Rattle.std.specs.Prelude.{slice_get, get_or, find, filter_map, if◌then◌else◌, option_map, option_and_then}
use Rattle.std.specs.Option.{option_or, option_map_or}
use Rattle.std.proofs.lemmas.Option.{slice_get_within, slice_get_cases}
use Rattle.word_ops.specs.declared.name.Name.{Name}
use Rattle.word_ops.specs.declared.step.Step.{Step}
use Rattle.word_ops.specs.declared.step.Entry.{Entry}
use Rattle.word_ops.specs.declared.ending.End.{End}
use Rattle.word_ops.specs.declared.ending.End.TheVariants.{Done, Spent}
use Rattle.word_ops.specs.declared.ending.SpentCause.TheVariants.{Turns}
use Rattle.word_ops.specs.Report.{below}
use Rattle.cilk_ast.specs.declared.program.Function.{Function}
use Rattle.cilk_ast.specs.declared.program.Program.{Program}
use Rattle.cilk_model.specs.ProgramMeaning.{meaning_of}
use Rattle.threadlet_code.specs.Breaches.{is_sound}
use Rattle.threadlet_code.specs.Running as code
use Rattle.codegen_expr.specs.Implements.{Implements}
use Rattle.world_model.specs.Action.{Action}
use Rattle.world_model.specs.Meaning.{Meaning}
use Rattle.world_model.specs.World.{Strand, World, value_of, main_name}
use Rattle.world_model.specs.Step.{last_of, due_in, due, step}
use Rattle.world_model.specs.Run.{start, run_from, run_of, Transition, transitions, trap_by, first_trap, end_in, end_of, spent_stamps, spent_turns, lacks_turn}
use Rattle.core_model.specs.Nodes.{Setup}
use Rattle.core_model.specs.Core.{setting_of}
use Rattle.refine.specs.Programs.{program_on}
use Rattle.refine.proofs.Each.{Each}
use Rattle.refine.proofs.Known.{Takes, AllTake, start_known, step_known}
use Rattle.refine.proofs.Alike.{on, DueAlike, step-alike, lacks-alike}

module _ (u : Setup) (program : Program) (sound : is_sound u.code ≡ true) (implements : Implements u.code program) where
  abbrev pub coded : Meaning
  coded = code.meaning_of u.code

  abbrev pub meant : Meaning
  meant = meaning_of program

  -- a strand that has as many arguments as its function takes is due the same
  due-same : (s : Strand) → Takes u.code s.function s.args → due (on u coded) s ≡ due (on u meant) s
  due-same s t = ⊎_elim by_function (λ past. absurd (let inside = slice_get_within u.code.functions s.function t.f t.known in let out = past.0 in let z = implements.functions in omega arith))
      (slice_get_cases program.functions s.function).1
    where
      by_function : (f : Function) × (s.function < length program.functions) × (slice_get program.functions s.function ≡ Some f) × (get_or program.functions s.function f ≡ f) → due (on u coded) s ≡ due (on u meant) s
      by_function (f, less, e, same) = ap (λ (l : List Action). due_in s.status (last_of l))
          (implements.acts s.function f e s.args (t.count ∙ implements.params s.function f t.f e t.known) s.answers)

  pub dues : (w : World) → AllTake u.code w → DueAlike u coded meant w.strands
  dues w all = go w.strands all
    where
      go : (es : List (Name × Strand)) → Each (Takes u.code) es → DueAlike u coded meant es
      go [] each = tt
      go (entry ∷ es) each = (due-same entry.1 each.0, go es each.1)

  -- ---- worlds

  abbrev begins : ℕ → ℕ → ℕ → World
  begins main globals replicated = start (on u (record { acts = coded.acts; main = main; globals = globals; replicated = replicated }))

  pub start-same : start (setting_of u) ≡ start (program_on u program)
  start-same = ap (λ m. begins m u.code.globals u.code.replicated) implements.main
      ∙ ap (λ g. begins program.main g u.code.replicated) implements.globals
      ∙ ap (λ r. begins program.main program.globals r) implements.replicated

  pub step-same : (w : World) (t : Step) → AllTake u.code w → step (setting_of u) w t ≡ step (program_on u program) w t
  step-same w t all = step-alike u coded meant w t (dues w all)

  pub run-same : (w : World) (told : List Step) → AllTake u.code w → run_from (setting_of u) w told ≡ run_from (program_on u program) w told
  run-same w [] all = refl
  run-same w (t ∷ told) all = go (step (setting_of u) w t) refl (λ v h. run-same v told h)
      ∙ ap (option_and_then (λ v. run_from (program_on u program) v told)) (step-same w t all)
    where
      go : (o : Option World) → step (setting_of u) w t ≡ o → ((v : World) → AllTake u.code v → run_from (setting_of u) v told ≡ run_from (program_on u program) v told) →
          option_and_then (λ v. run_from (setting_of u) v told) o ≡ option_and_then (λ v. run_from (program_on u program) v told) o
      go None e ih = refl
      go (Some v) e ih = ih v (step_known u sound w v t all e)

  pub transitions-same : (w : World) (told : List Step) → AllTake u.code w → transitions (setting_of u) w told ≡ transitions (program_on u program) w told
  transitions-same w [] all = refl
  transitions-same w (t ∷ told) all = go (step (setting_of u) w t) refl (λ v h. transitions-same v told h)
      ∙ ap (λ (o : Option World). option_map_or (λ v. record { before = w; done = t; after = v } ∷ transitions (program_on u program) v told) o []) (step-same w t all)
    where
      go : (o : Option World) → step (setting_of u) w t ≡ o → ((v : World) → AllTake u.code v → transitions (setting_of u) v told ≡ transitions (program_on u program) v told) →
          option_map_or (λ v. record { before = w; done = t; after = v } ∷ transitions (setting_of u) v told) o []
          ≡ option_map_or (λ v. record { before = w; done = t; after = v } ∷ transitions (program_on u program) v told) o []
      go None e ih = refl
      go (Some v) e ih = ap (λ (ts : List Transition). record { before = w; done = t; after = v } ∷ ts) (ih v (step_known u sound w v t all e))

  -- a world that steps lead to is known
  pub run-known : (w v : World) (told : List Step) → AllTake u.code w → run_from (setting_of u) w told ≡ Some v → AllTake u.code v
  run-known w v [] all e = let z : w ≡ v = cc in subst (λ (y : World). AllTake u.code y) z all
  run-known w v (t ∷ told) all e = go (step (setting_of u) w t) refl e (λ x h f. run-known x v told h f)
    where
      go : (o : Option World) → step (setting_of u) w t ≡ o → option_and_then (λ x. run_from (setting_of u) x told) o ≡ Some v →
          ((x : World) → AllTake u.code x → run_from (setting_of u) x told ≡ Some v → AllTake u.code v) → AllTake u.code v
      go None e f ih = absurd cc
      go (Some x) e f ih = ih x (step_known u sound w x t all e) f

  -- ---- runs from the start

  pub runs-same : (told : List Step) → run_of (setting_of u) told ≡ run_of (program_on u program) told
  runs-same told = run-same (start (setting_of u)) told (start_known u sound) ∙ ap (λ (w : World). run_from (program_on u program) w told) start-same

  pub whole-same : (told : List Step) → transitions (setting_of u) (start (setting_of u)) told ≡ transitions (program_on u program) (start (program_on u program)) told
  whole-same told = transitions-same (start (setting_of u)) told (start_known u sound) ∙ ap (λ (w : World). transitions (program_on u program) w told) start-same

  -- ---- endings and traffic

  find-same : (f g : ℕ → Bool) (ks : List ℕ) → ((k : ℕ) → f k ≡ g k) → find f ks ≡ find g ks
  find-same f g [] same = refl
  find-same f g (k ∷ ks) same = ap (λ (t : Bool). if t then Some k else find f ks) (same k) ∙ ap (λ (o : Option ℕ). if g k then Some k else o) (find-same f g ks same)

  spent-same : (w : World) → AllTake u.code w → spent_turns (setting_of u) w ≡ spent_turns (program_on u program) w
  spent-same w all = ap (λ (o : Option ℕ). option_map (λ k. Spent k Turns) o)
      (find-same (lacks_turn (setting_of u) w) (lacks_turn (program_on u program) w) (below u.nodelets) (λ k. lacks-alike u coded meant w k (dues w all)))

  pub trap-same : (told : List Step) → first_trap (setting_of u) told ≡ first_trap (program_on u program) told
  trap-same told = ap (λ (ts : List Transition). slice_get (filter_map (λ t. trap_by t.done t.after) ts) 0) (whole-same told)

  end-in-same : (told : List Step) (parts : List (List Entry)) (w : World) → AllTake u.code w → end_in (setting_of u) told parts w ≡ end_in (program_on u program) told parts w
  end-in-same told parts w all =
      ap (λ (o : Option End). option_or o (option_or (option_map (λ value. Done value) (value_of w main_name)) (option_or (spent_stamps parts) (spent_turns (setting_of u) w)))) (trap-same told)
      ∙ ap (λ (o : Option End). option_or (first_trap (program_on u program) told) (option_or (option_map (λ value. Done value) (value_of w main_name)) (option_or (spent_stamps parts) o))) (spent-same w all)

  pub ends-same : (told : List Step) (parts : List (List Entry)) → end_of (setting_of u) told parts ≡ end_of (program_on u program) told parts
  ends-same told parts = go (run_of (setting_of u) told) refl
      ∙ ap (λ (o : Option World). option_and_then (end_in (program_on u program) told parts) o) (runs-same told)
    where
      go : (o : Option World) → run_of (setting_of u) told ≡ o → option_and_then (end_in (setting_of u) told parts) o ≡ option_and_then (end_in (program_on u program) told parts) o
      go None e = refl
      go (Some w) e = end-in-same told parts w (run-known (start (setting_of u)) w told (start_known u sound) e)
