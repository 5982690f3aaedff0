-- A run that goes no further has an ending.
use Rattle.std.proofs.Common.{◌≡◌, ℕ, ◌≤◌, ◌<◌, List, Option, Some, None, refl, ap, ◌∙◌, arith, true, false, inl, inr, option_map, option_and_then, IsSome}
use Rattle.std.specs.Prelude.{is_some, position, find}
use Rattle.std.specs.Option.{option_or}
use Rattle.word_ops.specs.declared.step.Step.{Step}
use Rattle.word_ops.specs.declared.step.Entry.{Entry}
use Rattle.word_ops.specs.declared.ending.End.{End}
use Rattle.word_ops.specs.declared.ending.End.TheVariants.{Done, Spent}
use Rattle.word_ops.specs.declared.ending.SpentCause.TheVariants.{Turns, Stamps}
use Rattle.word_ops.specs.Report.{below}
use Rattle.merge_law.specs.Machine.{last_stamp}
use Rattle.merge_law.specs.Events.{Placed}
use Rattle.merge_law.specs.Merge.{steps_of, entries_of}
use Rattle.world_model.specs.World.{Setting, World, value_of, main_name}
use Rattle.world_model.specs.Run.{start, run_of, first_trap, lacks_turn, spent_stamps, spent_turns, end_in, end_of}
use Rattle.core_model.specs.Core.{start_core, setting_of}
use Rattle.core_model.specs.Laws.{MainHasEnded, TurnsAreSpent, HasEnded, NeverStuck, parts_of, RunsEnd}
use Rattle.core_model.proofs.Events.Play.{KeptBy, play_kept}
use Rattle.core_model.proofs.Invariant.Start.{starts}
use Rattle.core_model.proofs.NotStuck.Finds.{any_below, any_mapped, found, placed}
use Rattle.core_model.proofs.NotStuck.LastStamp.{is_last_stamp, last_has_stamp, play_stamped}

-- ---- options

some_first : {A : Type 0} (o p : Option A) → IsSome o → IsSome (option_or o p)
some_first None p h = absurd (let no : false ≡ true = h in cc)
some_first (Some x) p h = refl

some_second : {A : Type 0} (o p : Option A) → IsSome p → IsSome (option_or o p)
some_second None p h = h
some_second (Some x) p h = refl

some_mapped : {A B : Type 0} (f : A → B) (o : Option A) → IsSome o → IsSome (option_map f o)
some_mapped f None h = absurd (let no : false ≡ true = h in cc)
some_mapped f (Some x) h = refl

-- ---- a nodelet with the last stamp, and turns that are spent

stamps_spent : (n : ℕ) (told : List Placed) (k : ℕ) → k < n → is_last_stamp last_stamp (entries_of k told) ≡ true → IsSome (spent_stamps (parts_of n told))
stamps_spent n told k less last = some_mapped (λ k. Spent k Stamps) (position (is_last_stamp last_stamp) (parts_of n told))
    (placed (is_last_stamp last_stamp) (parts_of n told)
    (any_mapped (λ k. entries_of k told) (is_last_stamp last_stamp) (below n) ∙ any_below (λ k. is_last_stamp last_stamp (entries_of k told)) n k less last))

turns_spent : (on : Setting) (w : World) → TurnsAreSpent on w → IsSome (spent_turns on w)
turns_spent on w spent = some_mapped (λ k. Spent k Turns) (find (lacks_turn on w) (below on.nodelets))
    (found (lacks_turn on w) (below on.nodelets) (any_below (lacks_turn on w) on.nodelets spent.0 spent.1 spent.2))

-- ---- endings

module _ (on : Setting) (told : List Step) (parts : List (List Entry)) (w : World) where
  abbrev value_end : Option End
  value_end = option_map (λ value. Done value) (value_of w main_name)

  spent_end : IsSome (option_or (spent_stamps parts) (spent_turns on w)) → IsSome (end_in on told parts w)
  spent_end h = some_second (first_trap on told) _ (some_second value_end _ h)

  trap_ends : IsSome (first_trap on told) → IsSome (end_in on told parts w)
  trap_ends h = some_first (first_trap on told) _ h

  main_ends : MainHasEnded w → IsSome (end_in on told parts w)
  main_ends h = some_second (first_trap on told) _ (some_first value_end _ (some_mapped (λ value. Done value) (value_of w main_name) h))

  stamps_end : IsSome (spent_stamps parts) → IsSome (end_in on told parts w)
  stamps_end h = spent_end (some_first (spent_stamps parts) (spent_turns on w) h)

  turns_end : TurnsAreSpent on w → IsSome (end_in on told parts w)
  turns_end h = spent_end (some_second (spent_stamps parts) (spent_turns on w) (turns_spent on w h))

  -- the ending is that of the world to which the steps lead
  ends_at : run_of on told ≡ Some w → IsSome (end_in on told parts w) → IsSome (end_of on told parts)
  ends_at leads h = ap (λ o. is_some (option_and_then (end_in on told parts) o)) leads ∙ h

-- where no event is legal, the run has an ending
pub runs_end : NeverStuck → RunsEnd
runs_end stuck u sound some events played legal still = by (stuck u sound some events played legal still)
  where
    on : Setting
    on = setting_of u

    told : List Step
    told = steps_of played.told

    parts : List (List Entry)
    parts = parts_of u.nodelets played.told

    kept : KeptBy u sound some (start on) played
    kept = play_kept u sound some events (start_core u) (start on) played (starts u sound some) legal

    not_first : 1 ≤ last_stamp
    not_first = omega arith

    by : HasEnded u on played → IsSome (end_of on told parts)
    by (inl trapped) = ends_at on told parts kept.world kept.leads (trap_ends on told parts kept.world trapped)
    by (inr (inl (k, less, last))) =
        let is_last = last_has_stamp last_stamp (entries_of k played.told) not_first (play_stamped u events (start_core u) played legal k ∙ last) in
        ends_at on told parts kept.world kept.leads (stamps_end on told parts kept.world (stamps_spent u.nodelets played.told k less is_last))
    by (inr (inr (w, leads, rest, inl ended))) = ends_at on told parts w leads (main_ends on told parts w ended)
    by (inr (inr (w, leads, rest, inr spent))) = ends_at on told parts w leads (turns_end on told parts w spent)
