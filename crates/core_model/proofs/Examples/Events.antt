-- What small codes do on eight nodelets, event by event, computed.
use Rattle.std.proofs.Common.{◌≡◌, List, [], ◌∷◌, ◌++◌, refl, Some, None, pos, true, false}
use Rattle.word_ops.specs.declared.rules.Rules.{Rules}
use Rattle.word_ops.specs.declared.rules.Rules.TheVariants.{Loose, Checked}
use Rattle.word_ops.specs.declared.ending.TrapKind.TheVariants as trap
use Rattle.mem_atomics.specs.declared.op.Op.TheVariants.{Store}
use Rattle.merge_law.specs.declared.event.Event.{Event}
use Rattle.merge_law.specs.declared.event.Event.TheVariants.{Run, Take}
use Rattle.threadlet_code.specs.declared.instr.Instr.TheVariants as by
use Rattle.core_model.specs.Nodes.{Setup}
use Rattle.core_model.proofs.Examples.Samples.{function, setup, name, main, steps, counts, stamps, main_value, first_trap, act, spawn, apply}

-- ---- two stores to a word of nodelet 2, and a load of it

abbrev pub stores : Setup
stores = setup Loose (function 0 0 3 false
    (by.Turn ∷ by.Push (pos 37383395344384) ∷ by.Dup ∷ by.Push (pos 1) ∷ by.Post Store ∷ by.Dup ∷ by.Push (pos 2) ∷ by.Post Store ∷ by.Load ∷ by.Return ∷ []) ∷ [])

abbrev pub both_issued : List Event
both_issued = Run 0 main ∷ Run 0 main ∷ Run 0 main ∷ []

-- the load waits for both acknowledgements
a_load_elsewhere_waits : steps stores (both_issued ++ Take 0 2 ∷ Take 0 2 ∷ Take 2 0 ∷ Run 0 main ∷ []) ≡ None
a_load_elsewhere_waits = refl

abbrev all_taken : List Event
all_taken = Take 0 2 ∷ Take 0 2 ∷ Take 2 0 ∷ Take 2 0 ∷ []

abbrev loaded : List Event
loaded = Run 0 main ∷ Take 0 2 ∷ Run 2 main ∷ Run 2 main ∷ []

abbrev pub all_events : List Event
all_events = both_issued ++ all_taken ++ loaded

main_ends_at_nodelet_2 : main_value stores all_events 2 ≡ Some (pos 2)
main_ends_at_nodelet_2 = refl

each_store_is_applied_once : steps stores all_events ≡
    Some (act main ∷ act main ∷ act main ∷ apply main 2 ∷ apply main 2 ∷ act main ∷ act main ∷ [])
each_store_is_applied_once = refl

instructions_are_counted_up_to_the_action : counts stores all_events ≡ Some (1 ∷ 4 ∷ 3 ∷ 0 ∷ 0 ∷ 0 ∷ 0 ∷ 1 ∷ 0 ∷ 1 ∷ 1 ∷ [])
instructions_are_counted_up_to_the_action = refl

a_take_is_stamped_behind_the_sending : stamps stores all_events ≡ Some (1 ∷ 2 ∷ 3 ∷ 3 ∷ 4 ∷ 4 ∷ 5 ∷ 6 ∷ 7 ∷ 8 ∷ 9 ∷ [])
a_take_is_stamped_behind_the_sending = refl

-- ---- a word that nobody has allocated

abbrev reads_16 : Rules → Setup
reads_16 rules = setup rules (function 0 0 1 false (by.Turn ∷ by.Push (pos 16) ∷ by.Load ∷ by.Return ∷ []) ∷ [])

a_load_outside_traps : first_trap (reads_16 Checked) (Run 0 main ∷ Run 0 main ∷ []) 0 ≡
    Some (record { stamp = 2; kind = trap.OutOfBounds; pos = record { line = 1; column = 1 }; name = main })
a_load_outside_traps = refl

and_loosely_main_ends_with_0 : main_value (reads_16 Loose) (Run 0 main ∷ Run 0 main ∷ Run 0 main ∷ []) 0 ≡ Some (pos 0)
and_loosely_main_ends_with_0 = refl

-- ---- a child that is born at nodelet 1

abbrev pub child_elsewhere : Setup
child_elsewhere = setup Checked
    (function 0 1 2 true (by.Turn ∷ by.Push (pos 36283883716608) ∷ by.Spawn 1 (Some 0) true ∷ by.Sync ∷ by.Get 0 ∷ by.Sync ∷ by.Return ∷ [])
    ∷ function 0 0 1 false (by.Turn ∷ by.Push (pos 7) ∷ by.Return ∷ []) ∷ [])

abbrev pub child_born : List Event
child_born = Run 0 main ∷ Run 0 main ∷ []

abbrev pub child_over : List Event
child_over = Take 0 1 ∷ Run 1 (name 0 1) ∷ Run 1 (name 0 1) ∷ []

its_parent_waits_for_the_result : steps child_elsewhere (child_born ++ child_over ++ Run 0 main ∷ []) ≡ None
its_parent_waits_for_the_result = refl

abbrev child_joined : List Event
child_joined = child_born ++ child_over ++ Take 1 0 ∷ Run 0 main ∷ Run 0 main ∷ Run 0 main ∷ []

its_result_is_joined : main_value child_elsewhere child_joined 0 ≡ Some (pos 7)
its_result_is_joined = refl

its_name_is_of_its_parents_nodelet : steps child_elsewhere child_born ≡ Some (act main ∷ spawn main (name 0 1) ∷ [])
its_name_is_of_its_parents_nodelet = refl
