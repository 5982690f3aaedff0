-- What an event leaves of a nodelet that the code keeps, and what it sends.
use Rattle.std.specs.Prelude.{◌≡◌, ◌≢◌, ◌<◌, ℕ, List, [], ◌∷◌, ◌++◌, map, All, true, Some}
use Rattle.word_ops.specs.declared.name.Name.{Name}
use Rattle.threadlet_code.specs.declared.code.Code.{Code}
use Rattle.threadlet_state.specs.declared.packet.Packet as sent
use Rattle.merge_law.specs.Machine as merge
use Rattle.nodelet_core.specs.declared.nodelet.Nodelet.{Nodelet}
use Rattle.nodelet_core.specs.Carried.{body_in}
use Rattle.core_model.specs.Nodes.{Node}
use Rattle.core_model.specs.Takes.{can_come}
use Rattle.core_model.specs.Machine.{Packet, machine_of}
use Rattle.nodelet_core.specs.Kept.{node_of, setup_of, all_fit, packet_in, packet_fits, SameSettings}

-- What an outlet has sent to each nodelet.
abbrev pub Sent : Type 0
Sent = ℕ → List sent.Packet

-- An event of a nodelet had this outcome: it is the node of the outcome, has one entry more, and what was sent to
-- each nodelet is what the outcome sends.
pub record HadOutcome (code : Code) (before after : Nodelet) (sent_before sent_after : Sent) (outcome : merge.Outcome Node Packet) : Type 0 where
  pub settings : SameSettings before after
  pub node : node_of code after ≡ outcome.node
  pub entries : after.entries ≡ before.entries ++ outcome.entry ∷ []
  pub more : Sent
  pub sent : (k : ℕ) → sent_after k ≡ sent_before k ++ more k
  pub told : (k : ℕ) → map (packet_in code) (more k) ≡ outcome.sent k
  pub fit : (k : ℕ) → All (λ p. packet_fits code p ≡ true) (more k)

-- The context of a name has gone on, as the machine says.
pub record HasRun (code : Code) (before after : Nodelet) (sent_before sent_after : Sent) (name : Name) : Type 0 where
  pub outcome : merge.Outcome Node Packet
  pub runs : merge.run_at (machine_of (setup_of code before)) before.number (node_of code before) name ≡ Some outcome
  pub had : HadOutcome code before after sent_before sent_after outcome

-- A packet from an origin is taken, as the machine says.
pub record HasTaken (code : Code) (before after : Nodelet) (sent_before sent_after : Sent) (origin : ℕ) (p : sent.Packet) : Type 0 where
  pub outcome : merge.Outcome Node Packet
  pub takes : merge.take_at (machine_of (setup_of code before)) before.number (node_of code before) origin (packet_in code p) ≡ Some outcome
  pub had : HadOutcome code before after sent_before sent_after outcome

-- A packet from an origin can come, by some code: which one decides nothing.
pub record IsAwaited (v : Nodelet) (origin : ℕ) (p : sent.Packet) : Type 0 where
  pub there : origin < v.nodelets
  pub other : origin ≢ v.number
  pub code : Code
  pub comes : can_come (setup_of code v) v.number (node_of code v) (body_in code p.body) ≡ true
