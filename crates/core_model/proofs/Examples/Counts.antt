-- What nodelets count of small codes, and the first traps that entries tell of, computed.
use Rattle.std.proofs.Common.{◌≡◌, List, [], ◌∷◌, refl, Option, Some, None, pos, true, false, option_map}
use Rattle.word_ops.specs.declared.rules.Rules.TheVariants.{Loose, Checked}
use Rattle.word_ops.specs.declared.ending.TrapKind.TheVariants as trap
use Rattle.mem_atomics.specs.declared.op.Op.TheVariants.{Store}
use Rattle.merge_law.specs.declared.event.Event.{Event}
use Rattle.merge_law.specs.declared.event.Event.TheVariants.{Run, Take}
use Rattle.threadlet_code.specs.declared.instr.Instr.TheVariants as by
use Rattle.world_model.specs.Run.{start}
use Rattle.core_model.specs.declared.trapped.Trapped.{Trapped}
use Rattle.core_model.specs.Nodes.{Setup}
use Rattle.core_model.specs.Core.{setting_of}
use Rattle.core_model.specs.Reached.{reached, first_trapped}
use Rattle.core_model.specs.Counted.{traffic_in}
use Rattle.core_model.proofs.Examples.Samples.{function, setup, name, main, played}

-- ---- two stores to a word of nodelet 1, and a load of it

abbrev stores : Setup
stores = record (setup Loose (function 0 0 3 false
    (by.Turn ∷ by.Push (pos 36283883716608) ∷ by.Dup ∷ by.Push (pos 1) ∷ by.Post Store ∷ by.Dup ∷ by.Push (pos 2) ∷ by.Post Store ∷ by.Load ∷ by.Return ∷ []) ∷ [])) { nodelets = 2 }

abbrev all_events : List Event
all_events = Run 0 main ∷ Run 0 main ∷ Run 0 main ∷ Take 0 1 ∷ Take 0 1 ∷ Take 1 0 ∷ Take 1 0 ∷ Run 0 main ∷ Take 0 1 ∷ Run 1 main ∷ Run 1 main ∷ []

-- two posts and a move go from nodelet 0 to nodelet 1, where both stores are applied
stores_and_a_move_are_counted : option_map (λ p. traffic_in stores p.core) (played stores all_events) ≡ Some (record {
  n = 2;
  moves = 0 ∷ 1 ∷ 0 ∷ 0 ∷ [];
  births = 0 ∷ 0 ∷ 0 ∷ 0 ∷ [];
  posts = 0 ∷ 2 ∷ 0 ∷ 0 ∷ [];
  dones = 0 ∷ 0 ∷ 0 ∷ 0 ∷ [];
  turns = 1 ∷ 0 ∷ [];
  applied = 0 ∷ 2 ∷ [];
})
stores_and_a_move_are_counted = refl

-- ---- a child that is born at nodelet 1

abbrev child_elsewhere : Setup
child_elsewhere = record (setup Checked
    (function 0 1 2 true (by.Turn ∷ by.Push (pos 36283883716608) ∷ by.Spawn 1 (Some 0) true ∷ by.Sync ∷ by.Get 0 ∷ by.Sync ∷ by.Return ∷ [])
    ∷ function 0 0 1 false (by.Turn ∷ by.Push (pos 7) ∷ by.Return ∷ []) ∷ [])) { nodelets = 2 }

abbrev child_over : List Event
child_over = Run 0 main ∷ Run 0 main ∷ Take 0 1 ∷ Run 1 (name 0 1) ∷ Run 1 (name 0 1) ∷ []

-- its birth goes from nodelet 0 to nodelet 1, its end the other way
a_birth_and_an_end_are_counted : option_map (λ p. traffic_in child_elsewhere p.core) (played child_elsewhere child_over) ≡ Some (record {
  n = 2;
  moves = 0 ∷ 0 ∷ 0 ∷ 0 ∷ [];
  births = 0 ∷ 1 ∷ 0 ∷ 0 ∷ [];
  posts = 0 ∷ 0 ∷ 0 ∷ 0 ∷ [];
  dones = 0 ∷ 0 ∷ 1 ∷ 0 ∷ [];
  turns = 1 ∷ 1 ∷ [];
  applied = 0 ∷ 0 ∷ [];
})
a_birth_and_an_end_are_counted = refl

-- ---- a word that nobody has allocated

abbrev reads_16 : Setup
reads_16 = setup Checked (function 0 0 1 false (by.Turn ∷ by.Push (pos 16) ∷ by.Load ∷ by.Return ∷ []) ∷ [])

abbrev told_at_0 : List Event → Option (Option Trapped)
told_at_0 events = option_map (λ p. first_trapped 0 (reached (setting_of reads_16) (start (setting_of reads_16)) p.told)) (played reads_16 events)

no_trap_is_told_of_a_turn : told_at_0 (Run 0 main ∷ []) ≡ Some None
no_trap_is_told_of_a_turn = refl

a_trap_is_told_with_its_stamp : told_at_0 (Run 0 main ∷ Run 0 main ∷ []) ≡
    Some (Some (record { stamp = 2; kind = trap.OutOfBounds; pos = record { line = 1; column = 1 }; name = main }))
a_trap_is_told_with_its_stamp = refl
