-- Children: their names, births, races and joins, computed.
use Rattle.std.proofs.Common.{◌≡◌, ℕ, ◌+◌, List, [], ◌∷◌, ◌++◌, refl, Some, None, ℤ, pos}
use Rattle.word_ops.specs.declared.name.Name.{Name}
use Rattle.word_ops.specs.declared.step.Step.{Step}
use Rattle.word_ops.specs.declared.ending.End.TheVariants as ending
use Rattle.word_ops.specs.declared.ending.TrapKind.TheVariants as trap
use Rattle.mem_atomics.specs.declared.op.Op.TheVariants as op
use Rattle.world_model.specs.Action.{Turn, Alloc, Striped, Issue, Load, Move, Where, Spawn, Sync, Trap}
use Rattle.world_model.specs.Meaning.{Meaning, Acts, make, word_of}
use Rattle.world_model.specs.World.{Live, Ended, Trapped}
use Rattle.world_model.specs.Run.{run_of, end_of}
use Rattle.world_model.proofs.Samples.{at, name, main, ends, program, loose, act, spawn, acts, apply, status_of}

abbrev element : ℕ → ℤ
element i = pos (8 + i)

abbrev first : Name
first = name 0 1

abbrev second : Name
second = name 0 2

-- ---- put(a + 3, v) is a[3] = v; main spawns it with 1 and with 2, syncs and reads a[3]

abbrev put : ℤ → Acts
put v = make Turn (λ _. make (Issue (at 1) op.Store (element 3) v) (λ _. ends (pos 0)))

abbrev race : Meaning
race = program
    (make Turn (λ _. make (Alloc (Striped (pos 8))) (λ _. make (Spawn 1 1 (pos 1 ∷ []) None) (λ _.
    make (Spawn 1 1 (pos 2 ∷ []) None) (λ _. make (Sync 1) (λ _. make (Load (at 2) (element 3)) (λ r. ends (word_of r))))))))
    put

abbrev both_stored : List Step
both_stored = acts 2 main ++ spawn main first ∷ spawn main second ∷ acts 2 first ++ acts 2 second

the_second_child_may_be_last :
    status_of main (run_of (loose race) (both_stored ++ apply first 3 ∷ apply second 3 ∷ act first ∷ act second ∷ acts 3 main)) ≡ Some (Ended (pos 2))
the_second_child_may_be_last = refl

so_may_the_first :
    status_of main (run_of (loose race) (both_stored ++ apply second 3 ∷ apply first 3 ∷ act first ∷ act second ∷ acts 3 main)) ≡ Some (Ended (pos 1))
so_may_the_first = refl

an_end_waits_for_its_stores : run_of (loose race) (both_stored ++ act first ∷ []) ≡ None
an_end_waits_for_its_stores = refl

a_sync_waits_for_every_child : run_of (loose race) (both_stored ++ apply first 3 ∷ act first ∷ act main ∷ []) ≡ None
a_sync_waits_for_every_child = refl

a_spawn_names_its_child : run_of (loose race) (acts 3 main) ≡ None
a_spawn_names_its_child = refl

no_other_action_names_a_child : run_of (loose race) (spawn main first ∷ []) ≡ None
no_other_action_names_a_child = refl

a_name_is_used_once : run_of (loose race) (acts 2 main ++ spawn main first ∷ spawn main first ∷ []) ≡ None
a_name_is_used_once = refl

the_name_main_is_used : run_of (loose race) (acts 2 main ++ spawn main main ∷ []) ≡ None
the_name_main_is_used = refl

any_unused_name_will_do : status_of (name 70 5) (run_of (loose race) (acts 2 main ++ spawn main (name 70 5) ∷ [])) ≡ Some Live
any_unused_name_will_do = refl

-- ---- MIGRATE(a + 5); cilk_sync; NODE_ID()

abbrev away : Meaning
away = program
    (make Turn (λ _. make (Move (at 1) (element 5)) (λ _. make (Sync 1) (λ _. make Where (λ r. ends (word_of r))))))
    (λ _. ends (pos 0))

a_sync_without_children_stays : status_of main (run_of (loose away) (acts 5 main)) ≡ Some (Ended (pos 5))
a_sync_without_children_stays = refl

abbrev parent_away : Meaning
parent_away = program
    (make Turn (λ _. make (Spawn 1 1 (pos 7 ∷ []) None) (λ _. make (Move (at 1) (element 5)) (λ _. make (Sync 1) (λ _.
    make Where (λ r. ends (word_of r)))))))
    ends

a_sync_with_children_goes_home :
    status_of main (run_of (loose parent_away) (act main ∷ spawn main first ∷ act main ∷ act first ∷ acts 3 main)) ≡ Some (Ended (pos 0))
a_sync_with_children_goes_home = refl

but_not_before_they_have_ended : run_of (loose parent_away) (act main ∷ spawn main first ∷ acts 2 main) ≡ None
but_not_before_they_have_ended = refl

-- ---- a child that traps, beside a main that ends

abbrev trapping : Meaning
trapping = program (make (Spawn 1 1 [] None) (λ _. ends (pos 4))) (λ _ answers. Trap (at 9) trap.Depth ∷ [])

a_trap_outweighs_main's_value :
    end_of (loose trapping) (spawn main first ∷ act main ∷ act first ∷ []) [] ≡ Some (ending.Trap trap.Depth (at 9) first)
a_trap_outweighs_main's_value = refl

main_may_end_before_it : end_of (loose trapping) (spawn main first ∷ act main ∷ []) [] ≡ Some (ending.Done (pos 4))
main_may_end_before_it = refl

a_trapped_strand_acts_no_more : run_of (loose trapping) (spawn main first ∷ act first ∷ act first ∷ []) ≡ None
a_trapped_strand_acts_no_more = refl

-- ---- a hinted child

abbrev hinted : ℤ → Meaning
hinted address = program
    (make (Spawn 1 1 (pos 7 ∷ []) (Some (record { pos = at 5; address = address }))) (λ _. ends (pos 0)))
    (λ _. make Where (λ r. ends (word_of r)))

a_child_is_born_at_its_hint's_owner : status_of first (run_of (loose (hinted (element 6))) (spawn main first ∷ acts 2 first)) ≡ Some (Ended (pos 6))
a_child_is_born_at_its_hint's_owner = refl

a_bad_hint_traps : status_of main (run_of (loose (hinted (pos 0))) (act main ∷ [])) ≡ Some (Trapped trap.BadAddress (at 5))
a_bad_hint_traps = refl

and_names_no_child : run_of (loose (hinted (pos 0))) (spawn main first ∷ []) ≡ None
and_names_no_child = refl
