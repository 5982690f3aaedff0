-- Events at nodelets that write words to each other, computed.
use Rattle.std.proofs.Common.{◌≡◌, ◌-◌, ◌^◌, [], ◌∷◌, Some, None, refl}
use Rattle.merge_law.specs.declared.event.Event.TheVariants.{Run, Take}
use Rattle.merge_law.specs.Core.{Core, starting, after, play}
use Rattle.merge_law.proofs.Samples.{Sum, Letter, at, letter, writes, summing, wrote, took, of, core, entry_after, node_after, link_after, told}

-- ---- runs

a_run_has_the_stamp_behind_its_node's : entry_after (after (summing 2) (core 4 []) (Run 0 (writes 1 7))) ≡ Some (of 0 (wrote 5 1 7))
a_run_has_the_stamp_behind_its_node's = refl

and_its_node_has_it_then : node_after 0 (after (summing 2) (core 4 []) (Run 0 (writes 1 7))) ≡ Some (at 5 0)
and_its_node_has_it_then = refl

other_nodes_stay : node_after 1 (after (summing 2) (core 4 []) (Run 0 (writes 1 7))) ≡ Some (at 4 0)
other_nodes_stay = refl

what_it_sends_has_it_too_and_is_the_last_on_its_link :
    link_after 0 1 (after (summing 2) (core 4 (letter 2 6 ∷ [])) (Run 0 (writes 1 7))) ≡ Some (letter 2 6 ∷ letter 5 7 ∷ [])
what_it_sends_has_it_too_and_is_the_last_on_its_link = refl

nothing_is_sent_to_oneself : link_after 0 0 (after (summing 2) (core 4 []) (Run 0 (writes 0 7))) ≡ Some []
nothing_is_sent_to_oneself = refl

nor_to_a_nodelet_that_is_not_there : link_after 0 5 (after (summing 2) (core 4 []) (Run 0 (writes 5 7))) ≡ Some []
nor_to_a_nodelet_that_is_not_there = refl

a_strand_that_waits_has_no_run : after (summing 2) (core 4 []) (Run 0 (writes 1 0)) ≡ None
a_strand_that_waits_has_no_run = refl

nor_has_one_where_no_nodelet_is : after (summing 2) (core 4 []) (Run 2 (writes 1 7)) ≡ None
nor_has_one_where_no_nodelet_is = refl

there_is_a_run_to_the_last_stamp : node_after 0 (after (summing 2) (core (2 ^ 64 - 2) []) (Run 0 (writes 1 7))) ≡ Some (at (2 ^ 64 - 1) 0)
there_is_a_run_to_the_last_stamp = refl

and_none_from_it_on : after (summing 2) (core (2 ^ 64 - 1) []) (Run 0 (writes 1 7)) ≡ None
and_none_from_it_on = refl

-- ---- takes

a_take_is_behind_the_packet : entry_after (after (summing 2) (core 4 (letter 8 6 ∷ [])) (Take 0 1)) ≡ Some (of 1 (took 9 0))
a_take_is_behind_the_packet = refl

and_behind_its_node : node_after 1 (after (summing 2) (core 14 (letter 8 6 ∷ [])) (Take 0 1)) ≡ Some (at 15 6)
and_behind_its_node = refl

the_first_packet_goes_and_the_others_stay :
    link_after 0 1 (after (summing 2) (core 4 (letter 8 6 ∷ letter 9 7 ∷ [])) (Take 0 1)) ≡ Some (letter 9 7 ∷ [])
the_first_packet_goes_and_the_others_stay = refl

nothing_is_taken_where_nothing_is : after (summing 2) (core 4 []) (Take 0 1) ≡ None
nothing_is_taken_where_nothing_is = refl

nor_what_the_node_can't_take : after (summing 2) (core 4 (letter 8 100 ∷ letter 9 7 ∷ [])) (Take 0 1) ≡ None
nor_what_the_node_can't_take = refl

nor_a_packet_with_the_last_stamp : after (summing 2) (core 4 (letter (2 ^ 64 - 1) 6 ∷ [])) (Take 0 1) ≡ None
nor_a_packet_with_the_last_stamp = refl

nor_from_oneself :
    (let c : Core Sum Letter = record { nodes = λ k. at 0 0; links = λ from to. letter 1 1 ∷ [] } in after (summing 2) c (Take 1 1)) ≡ None
nor_from_oneself = refl

-- ---- events that follow each other

what_is_sent_can_be_taken :
    told (play (summing 2) (Run 0 (writes 1 7) ∷ Run 1 (writes 0 9) ∷ Take 0 1 ∷ []) (starting (λ _. at 0 0)))
    ≡ Some (of 0 (wrote 1 1 7) ∷ of 1 (wrote 1 0 9) ∷ of 1 (took 2 0) ∷ [])
what_is_sent_can_be_taken = refl

but_not_before : play (summing 2) (Take 0 1 ∷ Run 0 (writes 1 7) ∷ []) (starting (λ _. at 0 0)) ≡ None
but_not_before = refl
