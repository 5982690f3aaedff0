-- Replicated words, computed at two nodelets.
use Rattle.std.proofs.Common.{◌≡◌, [], ◌∷◌, ◌++◌, refl, Some, None, ℤ, pos, ◌+ℤ◌, ◌*ℤ◌}
use Rattle.word_ops.specs.declared.rules.Rules.{Rules}
use Rattle.word_ops.specs.declared.rules.Rules.TheVariants.{Loose, Checked}
use Rattle.word_ops.specs.declared.ending.TrapKind.TheVariants as trap
use Rattle.world_model.specs.Action.{Turn, Load, Issue, Init, Fence, Move, Alloc, Striped}
use Rattle.mem_atomics.specs.declared.op.Op.TheVariants.{Store}
use Rattle.world_model.specs.Meaning.{make, word_of}
use Rattle.world_model.specs.World.{Setting, Ended, Trapped}
use Rattle.world_model.specs.Run.{run_of}
use Rattle.world_model.proofs.Samples.{at, main, ends, alone, setting, loose, act, acts, apply, status_of, word_at, with_replicated}

abbrev replicated : ℤ
replicated = pos 34084860461056

abbrev initializes : Rules → Setting
initializes rules = setting (with_replicated 1 (alone (make Turn (λ _. make (Init (at 1) replicated (pos 9)) (λ _. make Fence (λ _. ends (pos 0))))))) 2 1000000 rules

the_place's_copy_is_stored_at_once : word_at 0 replicated (run_of (initializes Checked) (acts 2 main)) ≡ Some (pos 9)
the_place's_copy_is_stored_at_once = refl

the_other_copy_later : word_at 1 replicated (run_of (initializes Checked) (acts 2 main)) ≡ Some (pos 0)
the_other_copy_later = refl

a_fence_waits_for_it : run_of (initializes Checked) (acts 3 main) ≡ None
a_fence_waits_for_it = refl

both_copies_are_stored : word_at 1 replicated (run_of (initializes Checked) (acts 2 main ++ apply main 1 ∷ acts 2 main)) ≡ Some (pos 9)
both_copies_are_stored = refl

loosely_too : word_at 1 replicated (run_of (initializes Loose) (acts 2 main ++ apply main 1 ∷ acts 2 main)) ≡ Some (pos 9)
loosely_too = refl

an_init_of_another_view_is_bad : status_of main (run_of (loose (alone (make (Init (at 1) (pos 8) (pos 9)) (λ _. ends (pos 0))))) (act main ∷ [])) ≡ Some (Trapped trap.BadAddress (at 1))
an_init_of_another_view_is_bad = refl

-- a store to a replicated word changes the place's copy alone, and a move leads to another copy
abbrev two_copies : Setting
two_copies = setting (with_replicated 1 (alone (make Turn (λ _. make (Alloc (Striped (pos 2))) (λ array.
    make (Init (at 1) replicated (pos 9)) (λ _. make (Issue (at 2) Store replicated (pos 4)) (λ _. make (Load (at 3) replicated) (λ first.
    make (Move (at 4) (word_of array +ℤ pos 1)) (λ _. make (Load (at 5) replicated) (λ second. ends (pos 10 *ℤ word_of first +ℤ word_of second))))))))))) 2 1000000 Checked

each_nodelet_reads_its_copy : status_of main (run_of two_copies (acts 5 main ++ apply main 1 ∷ apply main 1 ∷ acts 3 main)) ≡ Some (Ended (pos 49))
each_nodelet_reads_its_copy = refl

a_move_waits_for_the_other_copy : run_of two_copies (acts 5 main ++ apply main 1 ∷ acts 1 main) ≡ None
a_move_waits_for_the_other_copy = refl
