-- Whom events touch, computed, and that in a core to which no legal events lead an event can hold up another strand.
use Rattle.std.proofs.Common.{◌≡◌, ℕ, List, [], ◌∷◌, ◌++◌, refl, Bool, true, false, Option, Some, None, option_map}
use Rattle.std.specs.Prelude.{if◌then◌else◌, ◌==◌, slice_get}
use Rattle.word_ops.specs.declared.name.Name.{Name}
use Rattle.word_ops.specs.declared.rules.Rules.TheVariants.{Checked}
use Rattle.merge_law.specs.declared.event.Event.{Event}
use Rattle.merge_law.specs.declared.event.Event.TheVariants.{Run, Take}
use Rattle.merge_law.specs.Core.{play}
use Rattle.threadlet_code.specs.declared.instr.Instr.TheVariants as by
use Rattle.threadlet_code.specs.Running.{started}
use Rattle.core_model.specs.Contexts.{Context}
use Rattle.core_model.specs.Nodes.{Setup}
use Rattle.core_model.specs.Start.{start_node}
use Rattle.core_model.specs.Machine.{machine_of}
use Rattle.core_model.specs.Core.{Core, start_core}
use Rattle.core_model.specs.Touched.{touched, can_go_on}
use Rattle.core_model.proofs.Examples.Samples.{function, setup, name, main, played}
use Rattle.core_model.proofs.Examples.Events.{stores, both_issued, child_elsewhere, child_born, child_over}

-- whom an event touches that comes after others
abbrev touched_after : Setup → List Event → Event → Option (List Name)
touched_after u events event = option_map (λ p. touched p.core event) (played u events)

abbrev goes_on_after : Setup → List Event → ℕ → Name → Option Bool
goes_on_after u events k q = option_map (λ p. can_go_on u p.core k q) (played u events)

-- ---- a child that is born at nodelet 1

its_birth_touches_it : touched_after child_elsewhere (Run 0 main ∷ []) (Run 0 main) ≡ Some (main ∷ name 0 1 ∷ [])
its_birth_touches_it = refl

its_arrival_touches_it : touched_after child_elsewhere child_born (Take 0 1) ≡ Some (name 0 1 ∷ [])
its_arrival_touches_it = refl

its_end_touches_its_parent : touched_after child_elsewhere (child_born ++ Take 0 1 ∷ Run 1 (name 0 1) ∷ []) (Run 1 (name 0 1)) ≡ Some (name 0 1 ∷ name 1 0 ∷ main ∷ [])
its_end_touches_its_parent = refl

its_result_touches_its_parent : touched_after child_elsewhere (child_born ++ child_over) (Take 1 0) ≡ Some (main ∷ [])
its_result_touches_its_parent = refl

its_parent_waits_before : goes_on_after child_elsewhere (child_born ++ child_over) 0 main ≡ Some false
its_parent_waits_before = refl

and_goes_on_behind : goes_on_after child_elsewhere (child_born ++ child_over ++ Take 1 0 ∷ []) 0 main ≡ Some true
and_goes_on_behind = refl

-- ---- a store to a word of nodelet 2

the_store_touches_nobody_there : touched_after stores both_issued (Take 0 2) ≡ Some []
the_store_touches_nobody_there = refl

word_of_it_touches_its_strand : touched_after stores (both_issued ++ Take 0 2 ∷ []) (Take 2 0) ≡ Some (main ∷ [])
word_of_it_touches_its_strand = refl

-- ---- two strands with one ticket

abbrev twins : Setup
twins = setup Checked (function 0 0 1 false (by.Turn ∷ by.Where ∷ by.Return ∷ []) ∷ [])

abbrev twin : ℕ → Context
twin number = record {
  name = name 0 number;
  home = 0;
  place = 0;
  ticket = Some (record { parent = main; home = 0; depth = 1; order = 0 });
  state = started 0 (slice_get twins.code.functions 0) [];
  late = None;
}

abbrev twin_core : Core
twin_core = record (start_core twins) { nodes = λ k. if k == 0 then record (start_node twins 0) { contexts = twin 1 ∷ twin 2 ∷ []; next_number = 3 } else start_node twins k }

abbrev both_at_their_end : List Event
both_at_their_end = Run 0 (name 0 1) ∷ Run 0 (name 0 2) ∷ Run 0 (name 0 1) ∷ Run 0 (name 0 2) ∷ []

abbrev goes_on : List Event → Option Bool
goes_on events = option_map (λ p. can_go_on twins p.core 0 (name 0 2)) (play (machine_of twins) events twin_core)

the_second_could_end : goes_on both_at_their_end ≡ Some true
the_second_could_end = refl

the_first_ends_and_holds_it_up : goes_on (both_at_their_end ++ Run 0 (name 0 1) ∷ []) ≡ Some false
the_first_ends_and_holds_it_up = refl

though_it_does_not_touch_it : option_map (λ p. touched p.core (Run 0 (name 0 1))) (play (machine_of twins) both_at_their_end twin_core) ≡ Some (name 0 1 ∷ name 0 3 ∷ main ∷ [])
though_it_does_not_touch_it = refl
