-- A nodelet takes a packet.
use Rattle.std.specs.Prelude.{ℕ, Bool, true, not, ◌&&◌, ◌||◌, ◌==◌, nat_lt, nat_le, if◌then◌else◌, Option, Some, None, is_some}
use Rattle.word_ops.specs.declared.place.Pos.{Pos}
use Rattle.word_ops.specs.declared.name.Name.{Name}
use Rattle.word_ops.specs.declared.ticket.Ticket.{Ticket}
use Rattle.word_ops.specs.declared.step.Step.TheVariants.{Apply}
use Rattle.data_layout.specs.Address.{is_valid, owner_of}
use Rattle.world_model.specs.World.{Item, Operation, Grant}
use Rattle.world_model.specs.Step.{late_after}
use Rattle.core_model.specs.Contexts.{Context, Body, Arrival, Issued, Ack, Returned, context_of}
use Rattle.core_model.specs.Nodes.{Setup, Node, is_granted, with_grant, with_strand, with_acknowledged, with_result, applied_here}
use Rattle.core_model.specs.Effects.{nothing, only_to, operated}
use Rattle.core_model.specs.Runs.{Outcome, has_no_result}

-- ---- items

-- An item that arrives: a grant is added, and an operation is applied where its word is granted. It counts as
-- applied also where that is not so.
abbrev pub with_item : Setup → Node → Item → Node
with_item m v (Grant extent) = with_grant v extent
with_item m v (Operation op a word at) = if is_granted m.rules v a then operated v op a word else applied_here v

-- The late position that comes of it.
abbrev pub late_of : Setup → Node → Item → Option Pos
late_of m v (Grant extent) = None
late_of m v (Operation op a word at) = if is_granted m.rules v a then None else Some at

-- ---- acknowledgements

-- A context gets late, where it is here.
abbrev pub made_late : Node → Pos → Option Context → Node
made_late v at None = v
made_late v at (Some x) = with_strand v (record x { late = Some (late_after x.late at) })

-- An item of a strand is done.
abbrev pub acknowledged : Node → Name → Option Pos → Node
acknowledged v name None = with_acknowledged v name
acknowledged v name (Some at) = made_late (with_acknowledged v name) at (context_of name v.contexts)

-- ---- a packet

-- What the taking of a packet leaves that came from nodelet `origin`.
abbrev pub take : Setup → ℕ → Node → ℕ → Body → Outcome
take m here v origin (Arrival x) = record { node = with_strand v x; bodies = nothing; count = 0; step = None }
take m here v origin (Issued name item) = record {
  node = with_item m v item;
  bodies = only_to origin (Ack name (late_of m v item));
  count = 0;
  step = Some (Apply name here);
}
take m here v origin (Ack name late) = record { node = acknowledged v name late; bodies = nothing; count = 0; step = None }
take m here v origin (Returned t value) = record { node = with_result v t value; bodies = nothing; count = 0; step = None }

-- ---- which packets can come

-- A number that is given here is under the next one.
abbrev pub is_given : ℕ → Node → Name → Bool
is_given here v name = not (name.nodelet == here) || nat_lt name.number v.next_number

-- A ticket's home is one of n nodelets.
abbrev pub has_home : ℕ → Option Ticket → Bool
has_home n None = true
has_home n (Some t) = nat_lt t.home n

-- What a packet carries can come to nodelet `here`: a strand that is not here, whose number was given and whose
-- nodelets are there; an operation on a word that this nodelet owns; a grant; word of something that is under way;
-- and a result that is wanted here and is not here yet.
abbrev pub can_come : Setup → ℕ → Node → Body → Bool
can_come m here v (Arrival x) =
    not (is_some (context_of x.name v.contexts)) && is_given here v x.name
    && nat_lt x.place m.nodelets && nat_lt x.home m.nodelets && has_home m.nodelets x.ticket
can_come m here v (Issued name (Operation op a word at)) = is_valid a m.nodelets && owner_of a here m.nodelets == here
can_come m here v (Issued name (Grant extent)) = true
can_come m here v (Ack name late) = nat_le 1 (v.under_way name)
can_come m here v (Returned t value) = t.home == here && has_no_result v (Some t)
