-- What contracts see of the two ends of a link.
use Rattle.std.specs.Prelude.{ℕ, ◌≡◌, ◌+◌, ◌-◌, List, ◌++◌, length, Option, option_to_list}
use Rattle.std.specs.VecDeque.{deque_len, deque_capacity}
use Rattle.std.specs.Global.{Global}
use denote.RawPtr.{Ptr}
use Rattle.rtrb.specs.Ring.{sent as ring_sent, received, known_items, known_free, producer_capacity}
use Rattle.rtrb.specs.Shared.{Names}
use Rattle.threadlet_state.specs.declared.packet.Packet.{Packet}
use Rattle.migrate_queue.specs.PutBack.{still_taken}
use Rattle.migrate_queue.specs.declared.link_out.LinkOut.{LinkOut}
use Rattle.migrate_queue.specs.declared.link_in.LinkIn.{LinkIn}

-- ---- the sending end

-- The packets that were put into the ring, oldest first.
abbrev pub pushed : LinkOut → List Packet
pushed out = ring_sent out.ring

-- The packets that were sent and wait for a slot of the ring, oldest first.
abbrev pub outbox : LinkOut → List Packet
outbox out = out.outbox.items

-- All packets that were sent, oldest first.
abbrev pub sent : LinkOut → List Packet
sent out = pushed out ++ outbox out

-- How many packets more the outbox has room for.
abbrev pub spare : LinkOut → ℕ
spare out = deque_capacity out.outbox - deque_len out.outbox

-- How many slots the ring has, and how many of them this end knows to be free.
abbrev pub slots : LinkOut → ℕ
slots out = producer_capacity out.ring

abbrev pub free_slots : LinkOut → ℕ
free_slots out = known_free out.ring

-- ---- the taking end

-- The packet that is put back.
abbrev pub returned : LinkIn → Option Packet
returned inward = inward.back

-- The packets that were taken and are not put back, oldest first.
abbrev pub taken : LinkIn → List Packet
taken inward = still_taken (received inward.ring) inward.back

-- The packets that this end knows to be in the ring, oldest first.
abbrev pub known : LinkIn → List Packet
known inward = known_items inward.ring

-- The packets that the next takes give: the one put back, then those known to be in the ring.
abbrev pub ready : LinkIn → List Packet
ready inward = option_to_list (returned inward) ++ known inward

-- How many packets wait: what the last look found in the ring, less what left it since, and the one put back.
abbrev pub waits : LinkIn → ℕ
waits inward = inward.seen + length (option_to_list (returned inward))

-- ---- both ends

-- What a link was made as: where its ring lies, and the names of its ring in proofs. Its two ends have it in
-- common, and no other link has it while they are there.
abbrev pub LinkName : Type 0
LinkName = Ptr × (Ptr × (Names × Global))

abbrev pub out_name : LinkOut → LinkName
out_name out = let end = out.ring.end in (end.words, (end.slots, (end.names, end.heap)))

abbrev pub in_name : LinkIn → LinkName
in_name inward = let end = inward.ring.end in (end.words, (end.slots, (end.names, end.heap)))

-- These are the two ends of one link.
abbrev pub IsLink : LinkOut → LinkIn → Type 0
IsLink out inward = in_name inward ≡ out_name out

-- An end is still the end of the same link.
abbrev pub SameOut : LinkOut → LinkOut → Type 0
SameOut old new = out_name new ≡ out_name old

abbrev pub SameIn : LinkIn → LinkIn → Type 0
SameIn old new = in_name new ≡ in_name old

-- What was sent and is not delivered, as far as the taking end knows of it.
abbrev pub undelivered : LinkOut → LinkIn → List Packet
undelivered out inward = ready inward ++ outbox out

-- What was sent is what was taken, then what is not delivered: so it is where a link is new, and after each look
-- at its two ends until one of them is used.
abbrev pub IsSettled : LinkOut → LinkIn → Type 0
IsSettled out inward = sent out ≡ taken inward ++ undelivered out inward
