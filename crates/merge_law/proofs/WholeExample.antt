-- Two parts that are whole: nodelet 0 sent 7 and 8 and took 9, nodelet 1 sent 9 and took 7.
use Rattle.std.proofs.Common.{◌≡◌, ℕ, zero, suc, ◌<◌, List, [], ◌∷◌, ◌++◌, Some, map, refl, subst, sym, arith, true, false}
use Rattle.std.specs.Prelude.{if◌then◌else◌, ◌==◌, slice_index_or, unwrap_or}
use Rattle.word_ops.specs.declared.step.Entry.{Entry}
use Rattle.merge_law.specs.Machine.{is_linked}
use Rattle.merge_law.specs.Events.{event_of}
use Rattle.merge_law.specs.Core.{starting, settled, play}
use Rattle.merge_law.specs.Replay.{Replayed, replay, IsReplay, IsWhole}
use Rattle.merge_law.specs.Merge.{merged}
use Rattle.merge_law.proofs.Ends.{ends_of}
use Rattle.merge_law.proofs.Whole.{merged_is_legal}
use Rattle.merge_law.proofs.Samples.{Sum, Letter, at, letter, summing, wrote, took}

abbrev parts : List (List Entry)
parts = (wrote 1 1 7 ∷ wrote 2 1 8 ∷ took 3 1 ∷ []) ∷ (wrote 1 0 9 ∷ took 2 0 ∷ []) ∷ []

abbrev nodes : ℕ → Sum
nodes k = if k == 0 then at 3 9 else at 2 7

abbrev sent : ℕ → ℕ → List Letter
sent from to = if from == 0 then letter 1 7 ∷ letter 2 8 ∷ [] else letter 1 9 ∷ []

abbrev received : ℕ → ℕ → List Letter
received from to = if from == 0 then letter 1 7 ∷ [] else letter 1 9 ∷ []

abbrev waiting : ℕ → ℕ → List Letter
waiting from to = if from == 0 then letter 2 8 ∷ [] else []

-- ---- of two nodelets each has one link to the other

from_0 : (j : ℕ) → is_linked 2 0 j ≡ true → j ≡ 1
from_0 zero l = absurd (let z : false ≡ true = l in cc)
from_0 (suc zero) l = refl
from_0 (suc (suc j)) l = absurd (let e = (ends_of 2 0 (suc (suc j)) l).takes in omega arith)

from_1 : (j : ℕ) → is_linked 2 1 j ≡ true → j ≡ 0
from_1 zero l = refl
from_1 (suc zero) l = absurd (let z : false ≡ true = l in cc)
from_1 (suc (suc j)) l = absurd (let e = (ends_of 2 1 (suc (suc j)) l).takes in omega arith)

to_0 : (o : ℕ) → is_linked 2 o 0 ≡ true → o ≡ 1
to_0 zero l = absurd (let z : false ≡ true = l in cc)
to_0 (suc zero) l = refl
to_0 (suc (suc o)) l = absurd (let e = (ends_of 2 (suc (suc o)) 0 l).sends in omega arith)

to_1 : (o : ℕ) → is_linked 2 o 1 ≡ true → o ≡ 0
to_1 zero l = refl
to_1 (suc zero) l = absurd (let z : false ≡ true = l in cc)
to_1 (suc (suc o)) l = absurd (let e = (ends_of 2 (suc (suc o)) 1 l).sends in omega arith)

-- ---- the parts are whole

abbrev end : ℕ → Replayed Sum Letter
end k = unwrap_or (replay (summing 2) k (slice_index_or parts k []) (at 0 0) (λ o. received o k)) (record { node = at 0 0; sent = λ _. []; left = λ _. []; made = [] })

each_replays : (k : ℕ) → k < 2 → IsReplay (summing 2) k (at 0 0) (slice_index_or parts k []) (λ o. received o k) (nodes k) (sent k)
each_replays zero h = record {
  end = end 0;
  goes = refl;
  made = refl;
  node_is = refl;
  sent_are = λ j l. subst (λ z. (end 0).sent z ≡ sent 0 z) (sym (from_0 j l)) refl;
  none_left = λ o l. subst (λ z. (end 0).left z ≡ []) (sym (to_0 o l)) refl;
}
each_replays (suc zero) h = record {
  end = end 1;
  goes = refl;
  made = refl;
  node_is = refl;
  sent_are = λ j l. subst (λ z. (end 1).sent z ≡ sent 1 z) (sym (from_1 j l)) refl;
  none_left = λ o l. subst (λ z. (end 1).left z ≡ []) (sym (to_1 o l)) refl;
}
each_replays (suc (suc k)) h = absurd (omega arith)

each_link : (o k : ℕ) → is_linked 2 o k ≡ true → sent o k ≡ received o k ++ waiting o k
each_link zero k l = refl
each_link (suc zero) k l = refl
each_link (suc (suc o)) k l = absurd (let e = (ends_of 2 (suc (suc o)) k l).sends in omega arith)

they_are_whole : IsWhole (summing 2) (λ _. at 0 0) parts nodes sent received waiting
they_are_whole = record { count = refl; replays = each_replays; links = each_link }

so_one_run_of_events_did_the_same :
    play (summing 2) (map event_of (merged parts)) (starting (λ _. at 0 0)) ≡ Some (record { core = settled 2 (λ _. at 0 0) nodes waiting; told = merged parts })
so_one_run_of_events_did_the_same = merged_is_legal Sum ℕ Letter (summing 2) (λ _. at 0 0) nodes parts sent received waiting they_are_whole
