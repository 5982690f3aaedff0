-- What a serial run leaves is the run of its seed.
use Rattle.std.proofs.Common.{◌≡◌, ℕ, List, [], ◌∷◌, refl, ap, ◌∙◌, subst, map}
use Rattle.std.proofs.lemmas.List.{append-nil}
use Rattle.word_ops.specs.Report.{below}
use Rattle.word_ops.specs.declared.step.Step.{Step}
use Rattle.merge_law.specs.Merge.{entries_of}
use Rattle.threadlet_code.specs.declared.code.Code.{Code}
use Rattle.traffic_report.specs.declared.run.Ran.{Ran}
use Rattle.world_model.specs.Cells.{AreCells}
use Rattle.core_model.specs.Nodes.{Setup}
use Rattle.core_model.specs.Core.{Core, start_core}
use Rattle.core_model.specs.CoreEnd.{end_in_core}
use Rattle.core_model.specs.Counted.{traffic_in}
use Rattle.core_model.specs.Laws.{parts_of}
use Rattle.sim_core.specs.declared.machine.Core.{Core as Kept}
use Rattle.sim_core.specs.Kept.{setup_in, core_in}
use Rattle.sim_core.specs.Advanced.{entries_at}
use Rattle.sim_core.specs.Shown.{cells_in, IsShown}
use Rattle.serial_sim.specs.Schedule.{generator_of, IsPicked}
use Rattle.serial_sim.specs.Scheduled.{IsScheduled}
use Rattle.serial_sim.specs.code.Going.{IsOver, HasGone}

same_for_each : {A B : Type 0} (f g : A → B) → ((x : A) → f x ≡ g x) → (xs : List A) → map f xs ≡ map g xs
same_for_each f g same [] = refl
same_for_each f g same (x ∷ xs) = ap (λ y. y ∷ map f xs) (same x) ∙ ap (λ ys. g x ∷ ys) (same_for_each f g same xs)

module _ (code : Code) (seed : ℕ) (u : Setup) (kept : Kept) (told : List Step) (ran : Ran) (gone : HasGone code seed u kept told)
    (shown : IsShown (setup_in code kept) (core_in code kept) told (entries_at kept) ran) where
  picks : IsPicked u (generator_of seed) (start_core u) gone.going.events
  picks =
      subst (IsPicked u (generator_of seed) (start_core u)) (append-nil gone.going.events)
      (gone.going.goes_on [] (subst (IsOver u) gone.going.core gone.over))

  parts : ran.parts ≡ parts_of u.nodelets gone.going.played.told
  parts =
      shown.parts ∙ ap (λ (v : Setup). map (entries_at kept) (below v.nodelets)) gone.going.setup
      ∙ same_for_each (entries_at kept) (λ k. entries_of k gone.going.played.told) gone.going.entries (below u.nodelets)

  pub scheduled : IsScheduled u seed ran
  scheduled = record {
    events = gone.going.events;
    played = gone.going.played;
    picks = picks;
    plays = gone.going.plays;
    told = shown.told_same ∙ gone.going.steps;
    parts = parts;
    end = shown.end ∙ ap (λ v. end_in_core v (core_in code kept)) gone.going.setup ∙ ap (end_in_core u) gone.going.core;
    out = shown.out ∙ ap (λ (c : Core). (c.nodes 0).pieces) gone.going.core;
    cells = subst (λ (c : Core). AreCells (cells_in c) ran.cells) gone.going.core shown.cells;
    traffic = shown.traffic ∙ ap (λ v. traffic_in v (core_in code kept)) gone.going.setup ∙ ap (traffic_in u) gone.going.core;
  }
