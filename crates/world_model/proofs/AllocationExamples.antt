-- Allocations, computed at eight nodelets.
use Rattle.std.proofs.Common.{◌≡◌, ℕ, List, [], ◌∷◌, refl, Option, Some, None, ℤ, pos, negsuc, map}
use Rattle.std.specs.Prelude.{option_map, option_and_then}
use Rattle.word_ops.specs.declared.ending.TrapKind.TheVariants as trap
use Rattle.data_layout.specs.Address.{address_at}
use Rattle.world_model.specs.Action.{Alloc, Request, Striped, Blocked, Local, Replicated}
use Rattle.world_model.specs.Allocation.{block_view}
use Rattle.world_model.specs.Meaning.{Meaning, make, word_of}
use Rattle.world_model.specs.World.{World, Extent, Item, Grant, Trapped, strand_of}
use Rattle.world_model.specs.Run.{run_of}
use Rattle.world_model.proofs.Samples.{at, main, ends, alone, loose, checked, act, status_of, place_of, answers_of, with_replicated}

abbrev asks : Request → Meaning
asks request = alone (make (Alloc request) (λ r. ends (word_of r)))

abbrev after : Request → Option World
after request = run_of (checked (asks request)) (act main ∷ [])

abbrev grants_at : ℕ → Option World → Option (List Extent)
grants_at k world = option_map (λ w. w.grants k) world

abbrev pending_at : ℕ → Option World → Option (List Item)
pending_at k world = option_and_then (λ w. option_map (λ s. s.pending k) (strand_of w main)) world

abbrev extent : ℤ → ℕ → Extent
extent first count = record { first = first; count = count }

striped_words_begin_in_view_0 : answers_of main (after (Striped (pos 8))) ≡ Some ((pos 8 ∷ []) ∷ [])
striped_words_begin_in_view_0 = refl

no_words_are_refused : answers_of main (after (Striped (pos 0))) ≡ Some ((pos 0 ∷ []) ∷ [])
no_words_are_refused = refl

so_are_too_many : answers_of main (after (Striped (pos 4294967289))) ≡ Some ((pos 0 ∷ []) ∷ [])
so_are_too_many = refl

a_refused_request_grants_nothing : pending_at 3 (after (Striped (pos 0))) ≡ Some []
a_refused_request_grants_nothing = refl

a_good_one_is_announced : pending_at 3 (after (Striped (pos 8))) ≡ Some (Grant (extent (pos 8) 8) ∷ [])
a_good_one_is_announced = refl

but_not_at_the_serving_nodelet : pending_at 0 (after (Striped (pos 8))) ≡ Some []
but_not_at_the_serving_nodelet = refl

where_it_is_granted_at_once : grants_at 0 (after (Striped (pos 8))) ≡ Some (extent (pos 35184372088832) 0 ∷ extent (pos 34084860461056) 0 ∷ extent (pos 8) 8 ∷ [])
where_it_is_granted_at_once = refl

loosely_nothing_is_granted : pending_at 3 (run_of (loose (asks (Striped (pos 8)))) (act main ∷ [])) ≡ Some []
loosely_nothing_is_granted = refl

-- ---- blocks

two_blocks_of_four_words_take_eight : pending_at 3 (after (Blocked (pos 2) (pos 4))) ≡ Some (Grant (extent (address_at 2 32) 8) ∷ [])
two_blocks_of_four_words_take_eight = refl

blocks_of_three_words_are_refused : answers_of main (after (Blocked (pos 2) (pos 3))) ≡ Some ((pos 0 ∷ []) ∷ [])
blocks_of_three_words_are_refused = refl

the_views_of_blocks : map block_view (pos 1 ∷ pos 2 ∷ pos 1048576 ∷ pos 2097152 ∷ pos 0 ∷ negsuc 0 ∷ []) ≡ Some 0 ∷ Some 1 ∷ Some 20 ∷ None ∷ None ∷ None ∷ []
the_views_of_blocks = refl

a_product_does_not_wrap : answers_of main (after (Blocked (pos 17592186044417) (pos 1048576))) ≡ Some ((pos 0 ∷ []) ∷ [])
a_product_does_not_wrap = refl

-- ---- local words

local_words_lie_at_the_owner : answers_of main (after (Local (at 3) (pos 5) (pos 11))) ≡ Some ((pos 38482906972160 ∷ []) ∷ [])
local_words_lie_at_the_owner = refl

and_take_the_strand_there : place_of main (after (Local (at 3) (pos 5) (pos 11))) ≡ Some 3
and_take_the_strand_there = refl

also_where_they_are_refused : place_of main (after (Local (at 3) (pos 0) (pos 11))) ≡ Some 3
also_where_they_are_refused = refl

they_are_granted_there : grants_at 3 (after (Local (at 3) (pos 5) (pos 11))) ≡ Some (extent (pos 34084860461056) 0 ∷ extent (pos 38482906972160) 5 ∷ [])
they_are_granted_there = refl

and_nowhere_else : map (λ k. pending_at k (after (Local (at 3) (pos 5) (pos 11)))) (0 ∷ 2 ∷ 7 ∷ []) ≡ Some [] ∷ Some [] ∷ Some [] ∷ []
and_nowhere_else = refl

a_replicated_address_is_the_place : place_of main (after (Local (at 3) (pos 5) (pos 34084860461056))) ≡ Some 0
a_replicated_address_is_the_place = refl

a_bad_address_comes_before_the_size : status_of main (after (Local (at 3) (pos 0) (pos 0))) ≡ Some (Trapped trap.BadAddress (at 3))
a_bad_address_comes_before_the_size = refl

-- ---- replicated words

replicated_words_lie_behind_the_globals : answers_of main (run_of (checked (with_replicated 2 (asks (Replicated (pos 3))))) (act main ∷ [])) ≡ Some ((address_at 31 2 ∷ []) ∷ [])
replicated_words_lie_behind_the_globals = refl

and_are_announced : pending_at 7 (run_of (checked (with_replicated 2 (asks (Replicated (pos 3))))) (act main ∷ [])) ≡ Some (Grant (extent (address_at 31 2) 3) ∷ [])
and_are_announced = refl
