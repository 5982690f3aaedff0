-- Nodelets as a machine of numbered nodes that send packets to each other.
use Rattle.std.specs.Prelude.{ℕ, Some, refl}
use Rattle.merge_law.specs.Machine as merge
use Rattle.core_model.specs.Contexts.{Body}
use Rattle.core_model.specs.Nodes.{Setup, Node}
use Rattle.core_model.specs.Runs.{run}
use Rattle.core_model.specs.Takes.{take}

-- A packet: what it carries, with the stamp of the event that sent it.
pub record Packet : Type 0 where
  pub stamp : ℕ
  pub body : Body

abbrev pub packet_of : ℕ → Body → Packet
packet_of stamp body = record { stamp = stamp; body = body }

abbrev pub stamped_node : ℕ → Node → Node
stamped_node stamp v = record v { stamp = stamp }

-- The machine of a run's nodelets.
abbrev pub machine_of : Setup → merge.Machine Node Body Packet
machine_of u = record {
  nodelets = u.nodelets;
  run_of = run u;
  take_of = λ here v origin body. Some (take u here v origin body);
  stamp_of = λ v. v.stamp;
  with_stamp = stamped_node;
  packet = packet_of;
  sent_at = λ p. p.stamp;
  body_of = λ p. p.body;
  stamp_of-with_stamp = λ stamp v. refl;
  sent_at-packet = λ stamp body. refl;
}
