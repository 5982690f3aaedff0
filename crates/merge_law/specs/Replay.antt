-- A nodelet's own entries, replayed on what it received, and nodelets whose replays fit together.
use Rattle.std.specs.Prelude.{◌≡◌, ℕ, ◌<◌, List, [], ◌∷◌, ◌++◌, length, true, slice_index_or, Option, Some, option_map, option_and_then}
use Rattle.word_ops.specs.declared.step.Entry.{Entry}
use Rattle.merge_law.specs.Machine.{Machine, Outcome, is_linked}
use Rattle.merge_law.specs.Events.{event_at}
use Rattle.merge_law.specs.Core.{advance}

-- A node after events of its own: what it sent to each nodelet, what it has left of what it received from each, and
-- the entries that the events made.
pub record Replayed (V P : Type 0) : Type 0 where
  pub node : V
  pub sent : ℕ → List P
  pub left : ℕ → List P
  pub made : List Entry

abbrev pub outcome_first : {V P : Type 0} → Outcome V P → Replayed V P → Replayed V P
outcome_first outcome rest = record {
  node = rest.node;
  sent = λ j. outcome.sent j ++ rest.sent j;
  left = rest.left;
  made = outcome.entry ∷ rest.made;
}

module _ {V B P : Type 0} (m : Machine V B P) where
  -- Nodelet k after the events of these entries, where each take has the next packet received from its origin; none
  -- where one is not possible.
  abbrev pub replay : ℕ → List Entry → V → (ℕ → List P) → Option (Replayed V P)
  replay k [] v received = Some (record { node = v; sent = λ _. []; left = received; made = [] })
  replay k (e ∷ es) v received =
      option_and_then
      (λ a. option_map (outcome_first a.outcome) (replay k es a.outcome.node a.left))
      (advance m v received (event_at k e.event))

  -- Nodelet k goes from v by just these entries, takes all that it received, and leaves this node and these packets.
  pub record IsReplay (k : ℕ) (v : V) (entries : List Entry) (received : ℕ → List P) (node : V) (sent : ℕ → List P) : Type 0 where
    pub end : Replayed V P
    pub goes : replay k entries v received ≡ Some end
    pub made : end.made ≡ entries
    pub node_is : end.node ≡ node
    pub sent_are : (j : ℕ) → is_linked m.nodelets k j ≡ true → end.sent j ≡ sent j
    pub none_left : (o : ℕ) → is_linked m.nodelets o k ≡ true → end.left o ≡ []

  -- There is a part for each nodelet; it leads from `start` to `nodes` on what was received; and what each nodelet
  -- sent to another is what that one received, and then what waits.
  pub record IsWhole (start : ℕ → V) (parts : List (List Entry)) (nodes : ℕ → V) (sent received waiting : ℕ → ℕ → List P) : Type 0 where
    pub count : length parts ≡ m.nodelets
    pub replays : (k : ℕ) → k < m.nodelets → IsReplay k (start k) (slice_index_or parts k []) (λ o. received o k) (nodes k) (sent k)
    pub links : (o k : ℕ) → is_linked m.nodelets o k ≡ true → sent o k ≡ received o k ++ waiting o k
