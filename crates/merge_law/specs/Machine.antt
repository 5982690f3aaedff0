-- A machine of numbered nodelets that send packets to each other, and what an event does at one of them.
use Rattle.std.specs.Prelude.{◌≡◌, ℕ, ◌+◌, ◌-◌, ◌^◌, max, List, [], map, Bool, ◌&&◌, not, ◌==◌, nat_lt, if◌then◌else◌, Option, None, option_map}
use Rattle.word_ops.specs.declared.name.Name.{Name}
use Rattle.word_ops.specs.declared.step.Step.{Step}
use Rattle.word_ops.specs.declared.step.Entry.{Entry}
use Rattle.word_ops.specs.declared.step.NodeEvent.{NodeEvent}
use Rattle.word_ops.specs.declared.step.NodeEvent.TheVariants.{Run, Take}

-- What an event does at its nodelet, stamps aside: the node that it leaves, the bodies that go to each nodelet, how
-- many instructions a run took up, and the step that was done, if any.
pub record Raw (V B : Type 0) : Type 0 where
  pub node : V
  pub bodies : ℕ → List B
  pub count : ℕ
  pub step : Option Step

-- A machine with nodes V, and packets P that hold bodies B.
pub record Machine (V B P : Type 0) : Type 0 where
  pub nodelets : ℕ
  -- at a nodelet with this node a strand goes on; none where it can't
  pub run_of : ℕ → V → Name → Option (Raw V B)
  -- a nodelet with this node takes a body from an origin; none where it can't
  pub take_of : ℕ → V → ℕ → B → Option (Raw V B)
  pub stamp_of : V → ℕ
  pub with_stamp : ℕ → V → V
  pub packet : ℕ → B → P
  pub sent_at : P → ℕ
  pub body_of : P → B
  -- a node has the stamp, and a packet the time of its sending, that it was given
  pub stamp_of-with_stamp : (s : ℕ) (v : V) → stamp_of (with_stamp s v) ≡ s
  pub sent_at-packet : (s : ℕ) (b : B) → sent_at (packet s b) ≡ s

-- What an event leaves: the node, the packets sent to each nodelet, and its entry.
pub record Outcome (V P : Type 0) : Type 0 where
  pub node : V
  pub sent : ℕ → List P
  pub entry : Entry

-- No event comes after this stamp.
abbrev pub last_stamp : ℕ
last_stamp = 2 ^ 64 - 1

-- Of n nodelets, `from` has a link to `to`: they are two different ones.
abbrev pub is_linked : ℕ → ℕ → ℕ → Bool
is_linked n from to = nat_lt from n && nat_lt to n && not (from == to)

module _ {V B P : Type 0} (m : Machine V B P) where
  -- Stamps are set here alone: the node, all that it sends and the entry have one stamp, and packets go along links.
  abbrev pub stamped : ℕ → ℕ → (ℕ → NodeEvent) → Raw V B → Outcome V P
  stamped k s event raw = record {
    node = m.with_stamp s raw.node;
    sent = λ j. if is_linked m.nodelets k j then map (m.packet s) (raw.bodies j) else [];
    entry = record { stamp = s; event = event raw.count; step = raw.step };
  }

  -- A strand goes on at nodelet k, whose stamp rises by one.
  abbrev pub run_at : ℕ → V → Name → Option (Outcome V P)
  run_at k v name =
      if nat_lt (m.stamp_of v) last_stamp
      then option_map (stamped k (m.stamp_of v + 1) (λ count. Run name count)) (m.run_of k v name)
      else None

  -- Nodelet k takes a packet from an origin; its stamp rises above its own and the packet's.
  abbrev pub take_at : ℕ → V → ℕ → P → Option (Outcome V P)
  take_at k v origin p =
      if nat_lt (m.stamp_of v) last_stamp && nat_lt (m.sent_at p) last_stamp
      then option_map (stamped k (max (m.stamp_of v) (m.sent_at p) + 1) (λ _. Take origin)) (m.take_of k v origin (m.body_of p))
      else None
