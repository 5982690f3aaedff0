-- Replays and merges, computed.
use Rattle.std.proofs.Common.{◌≡◌, ℕ, List, [], ◌∷◌, Option, Some, None, map, refl}
use Rattle.std.specs.Prelude.{if◌then◌else◌, ◌==◌, option_map}
use Rattle.word_ops.specs.declared.step.Entry.{Entry}
use Rattle.word_ops.specs.declared.step.Step.TheVariants as step
use Rattle.merge_law.specs.Events.{event_of}
use Rattle.merge_law.specs.Core.{starting, play}
use Rattle.merge_law.specs.Replay.{Replayed, replay}
use Rattle.merge_law.specs.Merge.{merged, steps_of}
use Rattle.merge_law.proofs.Samples.{Sum, Letter, at, letter, writes, summing, wrote, took, of, told}

-- ---- replays: nodelet 0 sent 7 and then 8 to nodelet 1, which took the first

abbrev received : ℕ → List Letter
received from = if from == 0 then letter 1 7 ∷ [] else []

abbrev made : Option (Replayed Sum Letter) → Option (List Entry)
made r = option_map (λ x. x.made) r

a_take_has_the_next_packet_received : option_map (λ r. r.node) (replay (summing 2) 1 (took 2 0 ∷ []) (at 0 0) received) ≡ Some (at 2 7)
a_take_has_the_next_packet_received = refl

and_nothing_is_left : option_map (λ r. r.left 0) (replay (summing 2) 1 (took 2 0 ∷ []) (at 0 0) received) ≡ Some []
and_nothing_is_left = refl

no_more_is_taken_than_was_received : replay (summing 2) 1 (took 2 0 ∷ took 3 0 ∷ []) (at 0 0) received ≡ None
no_more_is_taken_than_was_received = refl

an_entry_with_another_stamp_is_not_made : made (replay (summing 2) 1 (took 5 0 ∷ []) (at 0 0) received) ≡ Some (took 2 0 ∷ [])
an_entry_with_another_stamp_is_not_made = refl

what_a_nodelet_sent : option_map (λ r. r.sent 1) (replay (summing 2) 0 (wrote 1 1 7 ∷ wrote 2 1 8 ∷ []) (at 0 0) (λ _. [])) ≡ Some (letter 1 7 ∷ letter 2 8 ∷ [])
what_a_nodelet_sent = refl

-- ---- the order of merged entries

stamps_come_before_nodelets_and_nodelets_before_places :
    merged ((wrote 1 1 7 ∷ wrote 4 1 8 ∷ []) ∷ [] ∷ (wrote 1 0 5 ∷ wrote 3 0 6 ∷ took 4 0 ∷ []) ∷ [])
    ≡ of 0 (wrote 1 1 7) ∷ of 2 (wrote 1 0 5) ∷ of 2 (wrote 3 0 6) ∷ of 0 (wrote 4 1 8) ∷ of 2 (took 4 0) ∷ []
stamps_come_before_nodelets_and_nodelets_before_places = refl

entries_of_one_stamp_keep_their_places :
    merged ((wrote 2 1 7 ∷ wrote 2 1 8 ∷ wrote 1 1 9 ∷ []) ∷ (wrote 1 0 5 ∷ wrote 2 0 6 ∷ []) ∷ [])
    ≡ of 0 (wrote 1 1 9) ∷ of 1 (wrote 1 0 5) ∷ of 0 (wrote 2 1 7) ∷ of 0 (wrote 2 1 8) ∷ of 1 (wrote 2 0 6) ∷ []
entries_of_one_stamp_keep_their_places = refl

entries_without_a_step_have_none : steps_of (merged ((took 1 1 ∷ []) ∷ (wrote 1 0 5 ∷ took 2 0 ∷ []) ∷ [])) ≡ step.Act (writes 0 5) None ∷ []
entries_without_a_step_have_none = refl

no_parts_no_entries : merged [] ≡ []
no_parts_no_entries = refl

-- ---- whole parts: nodelet 0 sent 7 and 8 and took 9, nodelet 1 sent 9 and took 7

abbrev parts : List (List Entry)
parts = (wrote 1 1 7 ∷ wrote 2 1 8 ∷ took 3 1 ∷ []) ∷ (wrote 1 0 9 ∷ took 2 0 ∷ []) ∷ []

their_merge_is_played : told (play (summing 2) (map event_of (merged parts)) (starting (λ _. at 0 0))) ≡ Some (merged parts)
their_merge_is_played = refl

what_was_not_taken_waits : option_map (λ p. p.core.links 0 1) (play (summing 2) (map event_of (merged parts)) (starting (λ _. at 0 0))) ≡ Some (letter 2 8 ∷ [])
what_was_not_taken_waits = refl

one_part_after_the_other_is_not : play (summing 2) (map event_of (of 0 (wrote 1 1 7) ∷ of 0 (wrote 2 1 8) ∷ of 0 (took 3 1) ∷ of 1 (wrote 1 0 9) ∷ of 1 (took 2 0) ∷ [])) (starting (λ _. at 0 0)) ≡ None
one_part_after_the_other_is_not = refl
