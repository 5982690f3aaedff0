-- Traffic, computed.
use Rattle.std.proofs.Common.{◌≡◌, List, [], ◌∷◌, ◌++◌, refl, Some, pos, codes}
use Rattle.std.specs.Fmt.{digits}
use Rattle.word_ops.specs.declared.name.Name.{Name}
use Rattle.word_ops.specs.declared.step.Step.{Step}
use Rattle.word_ops.specs.declared.rules.Rules.TheVariants.{Loose, Checked}
use Rattle.word_ops.specs.declared.ending.End.TheVariants.{Done}
use Rattle.word_ops.specs.Report.{report_of}
use Rattle.mem_atomics.specs.declared.op.Op.TheVariants.{Store}
use Rattle.world_model.specs.Action.{Turn, Alloc, Striped, Issue, Init, Load, Spawn, Sync}
use Rattle.world_model.specs.Meaning.{make}
use Rattle.world_model.specs.World.{Setting}
use Rattle.world_model.specs.Run.{end_of}
use Rattle.world_model.specs.Traffic.{traffic_of}
use Rattle.world_model.proofs.Samples.{at, name, main, ends, alone, program, setting, act, spawn, acts, apply, apply_at, with_replicated}

abbrev child : Name
child = name 0 1

-- a = malloc(4); cilk_spawn_at(a + 2) put(a + 2, 4); cilk_sync; return 0, at four nodelets
abbrev hinted : Setting
hinted = setting (program
    (make Turn (λ _. make (Alloc (Striped (pos 4))) (λ _. make (Spawn 1 1 (pos 4 ∷ []) (Some (record { pos = at 1; address = pos 6 }))) (λ _.
    make (Sync 1) (λ _. make (Sync 1) (λ _. ends (pos 0)))))))
    (λ v. make Turn (λ _. make (Issue (at 2) Store (pos 6) v) (λ _. ends (pos 0))))) 4 1000000 Checked

abbrev hinted_steps : List Step
hinted_steps = acts 2 main ++ apply_at main (1 ∷ 2 ∷ 3 ∷ []) ++ spawn main child ∷ acts 3 child ++ acts 3 main

the_run_is_done : end_of hinted hinted_steps [] ≡ Some (Done (pos 0))
the_run_is_done = refl

a_birth_a_store_and_an_end : report_of (traffic_of hinted hinted_steps)
    ≡ codes "traffic\nbirth 0 2 1\npost 2 2 1\ndone 2 0 1\nnodelet 0 turns 1 applied 0\nnodelet 1 turns 0 applied 0\nnodelet 2 turns 1 applied 1\nnodelet 3 turns 0 applied 0\n"
unfolding digits
a_birth_a_store_and_an_end = refl

-- a replicated word is initialized, one store goes to nodelet 1, and the strand goes there to read it
abbrev posting : Setting
posting = setting (with_replicated 1 (alone
    (make Turn (λ _. make (Init (at 1) (pos 34084860461056) (pos 9)) (λ _. make (Issue (at 2) Store (pos 3) (pos 5)) (λ _.
    make (Load (at 3) (pos 3)) (λ _. ends (pos 0)))))))) 2 1000000 Loose

abbrev posting_steps : List Step
posting_steps = acts 3 main ++ apply_at main (1 ∷ 1 ∷ []) ++ acts 2 main

an_init_posts_to_each_nodelet : report_of (traffic_of posting posting_steps)
    ≡ codes "traffic\nmove 0 1 1\npost 0 0 1\npost 0 1 2\nnodelet 0 turns 1 applied 1\nnodelet 1 turns 0 applied 2\n"
unfolding digits
an_init_posts_to_each_nodelet = refl

what_is_pending_is_not_applied : report_of (traffic_of posting (acts 3 main))
    ≡ codes "traffic\npost 0 0 1\npost 0 1 2\nnodelet 0 turns 1 applied 1\nnodelet 1 turns 0 applied 0\n"
unfolding digits
what_is_pending_is_not_applied = refl

-- a store outside at nodelet 1 is applied there, though it leaves the word; a load outside moves and traps
abbrev outside : Setting
outside = setting (alone
    (make (Issue (at 1) Store (pos 3) (pos 5)) (λ _. make Turn (λ _. ends (pos 0))))) 2 1000000 Checked

a_refused_store_counts_as_applied : report_of (traffic_of outside (act main ∷ apply main 1 ∷ []))
    ≡ codes "traffic\npost 0 1 1\nnodelet 0 turns 0 applied 0\nnodelet 1 turns 0 applied 1\n"
unfolding digits
a_refused_store_counts_as_applied = refl

abbrev outside_load : Setting
outside_load = setting (alone (make (Load (at 1) (pos 3)) (λ _. ends (pos 0)))) 2 1000000 Checked

a_refused_load_counts_as_a_move : report_of (traffic_of outside_load (act main ∷ []))
    ≡ codes "traffic\nmove 0 1 1\nnodelet 0 turns 0 applied 0\nnodelet 1 turns 0 applied 0\n"
unfolding digits
a_refused_load_counts_as_a_move = refl

-- a store outside at the place traps in place of its effect
abbrev outside_store : Setting
outside_store = setting (alone (make (Issue (at 1) Store (pos 2) (pos 5)) (λ _. ends (pos 0)))) 2 1000000 Checked

a_trapping_store_is_not_posted : report_of (traffic_of outside_store (act main ∷ []))
    ≡ codes "traffic\nnodelet 0 turns 0 applied 0\nnodelet 1 turns 0 applied 0\n"
unfolding digits
a_trapping_store_is_not_posted = refl
