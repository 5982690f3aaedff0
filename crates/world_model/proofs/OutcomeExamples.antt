-- Which ending counts where there are several, computed.
use Rattle.std.proofs.Common.{◌≡◌, ℕ, ◌+◌, ◌-◌, ◌^◌, List, [], ◌∷◌, ◌++◌, refl, Some, None, ℤ, pos}
use Rattle.word_ops.specs.declared.name.Name.{Name}
use Rattle.word_ops.specs.declared.step.Entry.{Entry}
use Rattle.word_ops.specs.declared.step.NodeEvent.TheVariants.{Take}
use Rattle.word_ops.specs.declared.ending.End.TheVariants as ending
use Rattle.word_ops.specs.declared.ending.SpentCause.TheVariants as cause
use Rattle.word_ops.specs.declared.ending.TrapKind.TheVariants as trap
use Rattle.word_ops.specs.declared.rules.Rules.TheVariants.{Loose}
use Rattle.mem_atomics.specs.declared.op.Op.TheVariants.{Store}
use Rattle.world_model.specs.Action.{Turn, Issue, Fence, Move, Spawn, Trap}
use Rattle.world_model.specs.Meaning.{Meaning, make}
use Rattle.world_model.specs.World.{Setting}
use Rattle.world_model.specs.Run.{run_of, end_of}
use Rattle.world_model.proofs.Samples.{at, name, main, ends, program, alone, setting, loose, act, acts, spawn, apply, word_at}

abbrev element : ℕ → ℤ
element i = pos (8 + i)

abbrev child : Name
child = name 0 1

-- ---- two traps

abbrev both_trap : Meaning
both_trap = program (make (Spawn 1 1 [] None) (λ _ answers. Trap (at 3) trap.Divide ∷ [])) (λ _ answers. Trap (at 9) trap.Depth ∷ [])

the_child's_trap_is_first : end_of (loose both_trap) (spawn main child ∷ act child ∷ act main ∷ []) [] ≡ Some (ending.Trap trap.Depth (at 9) child)
the_child's_trap_is_first = refl

or_main's : end_of (loose both_trap) (spawn main child ∷ act main ∷ act child ∷ []) [] ≡ Some (ending.Trap trap.Divide (at 3) main)
or_main's = refl

-- ---- turns that are spent: main is at one nodelet and its child at another, and no nodelet has a turn

abbrev starved : ℕ → ℕ → Setting
starved here there = setting (program
    (make (Spawn 1 1 [] (Some (record { pos = at 1; address = element there }))) (λ _. make (Move (at 2) (element here)) (λ _. make Turn (λ _. ends (pos 0)))))
    (λ _. make Turn (λ _. ends (pos 0)))) 8 0 Loose

the_least_nodelet_is_the_child's : end_of (starved 5 3) (spawn main child ∷ act main ∷ []) [] ≡ Some (ending.Spent 3 cause.Turns)
the_least_nodelet_is_the_child's = refl

or_the_least_is_main's : end_of (starved 3 5) (spawn main child ∷ act main ∷ []) [] ≡ Some (ending.Spent 3 cause.Turns)
or_the_least_is_main's = refl

the_last_nodelet_counts_too : end_of (starved 7 7) (spawn main child ∷ act main ∷ []) [] ≡ Some (ending.Spent 7 cause.Turns)
the_last_nodelet_counts_too = refl

-- one turn is served, and no strand is due another
a_nodelet_without_turns_is_no_ending : end_of (setting (alone (make Turn (λ _. make Fence (λ _. ends (pos 0))))) 8 1 Loose) (act main ∷ []) [] ≡ None
a_nodelet_without_turns_is_no_ending = refl

-- ---- what outweighs what

abbrev main_ends : Setting
main_ends = setting (program (make (Spawn 1 1 [] None) (λ _. ends (pos 4))) (λ _. make Turn (λ _. ends (pos 0)))) 8 0 Loose

main's_value_outweighs_spent_turns : end_of main_ends (spawn main child ∷ act main ∷ []) [] ≡ Some (ending.Done (pos 4))
main's_value_outweighs_spent_turns = refl

and_before_it_the_turns_are_spent : end_of main_ends (spawn main child ∷ []) [] ≡ Some (ending.Spent 0 cause.Turns)
and_before_it_the_turns_are_spent = refl

abbrev last : List Entry
last = record { stamp = 2 ^ 64 - 1; event = Take 0; step = None } ∷ []

the_least_nodelet_with_the_last_stamp : end_of main_ends (spawn main child ∷ []) ([] ∷ last ∷ last ∷ []) ≡ Some (ending.Spent 1 cause.Stamps)
the_least_nodelet_with_the_last_stamp = refl

a_trap_outweighs_spent_stamps : end_of (loose both_trap) (spawn main child ∷ act main ∷ []) (last ∷ []) ≡ Some (ending.Trap trap.Divide (at 3) main)
a_trap_outweighs_spent_stamps = refl

-- ---- behind a trap

what_a_trapped_strand_has_pending_is_applied :
    word_at 2 (element 2) (run_of (loose (alone (make (Issue (at 1) Store (element 2) (pos 7)) (λ _ answers. Trap (at 9) trap.Divide ∷ [])))) (acts 2 main ++ apply main 2 ∷ []))
    ≡ Some (pos 7)
what_a_trapped_strand_has_pending_is_applied = refl
