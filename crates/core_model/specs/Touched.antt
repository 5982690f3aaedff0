-- Whom an event touches: no other strand can go on where it could not, or the other way round.
use Rattle.std.specs.Prelude.{◌≡◌, ◌≢◌, ◌≤◌, ℕ, List, [], ◌∷◌, ◌++◌, drop, Bool, true, ◌&&◌, ◌==◌, nat_lt, if◌then◌else◌, Option, Some, None, is_some, option_and_then, Contains}
use Rattle.word_ops.specs.declared.name.Name.{Name}
use Rattle.word_ops.specs.declared.ticket.Ticket.{Ticket}
use Rattle.merge_law.specs.declared.event.Event.{Event}
use Rattle.merge_law.specs.declared.event.Event.TheVariants.{Run, Take}
use Rattle.merge_law.specs.Events.{nodelet_of}
use Rattle.merge_law.specs.Core.{After, Played, after}
use Rattle.threadlet_code.specs.Breaches.{is_sound}
use Rattle.core_model.specs.Contexts.{Context, Body, Arrival, Issued, Ack, Returned, context_of}
use Rattle.core_model.specs.Nodes.{Setup, Node}
use Rattle.core_model.specs.Effects.{next_name}
use Rattle.core_model.specs.Runs.{has_no_result, run}
use Rattle.core_model.specs.Machine.{Packet, machine_of}
use Rattle.core_model.specs.Core.{Core}
use Rattle.core_model.specs.Laws.{IsPlayed}

-- ---- whom an event touches

-- The parent of a strand with a ticket; main has none.
abbrev pub parents_of : Option Ticket → List Name
parents_of None = []
parents_of (Some t) = t.parent ∷ []

-- The parent of a context's strand, where the context is there.
abbrev pub parents_by : Option Context → List Name
parents_by None = []
parents_by (Some x) = parents_of x.ticket

-- A run at nodelet `here` touches the strand that goes on, the child that gets the next name there, and the parent.
abbrev pub touched_by_run : ℕ → Node → Name → List Name
touched_by_run here v name = name ∷ next_name here v ∷ parents_by (context_of name v.contexts)

-- A packet touches the strand that arrives, for an item nobody, the strand that an acknowledgement is for, or the
-- parent to whom a result goes.
abbrev pub touched_by_body : Body → List Name
touched_by_body (Arrival x) = x.name ∷ []
touched_by_body (Issued name item) = []
touched_by_body (Ack name late) = name ∷ []
touched_by_body (Returned t value) = t.parent ∷ []

-- Of the packets on a link the first is taken.
abbrev pub touched_by_first : List Packet → List Name
touched_by_first [] = []
touched_by_first (p ∷ rest) = touched_by_body p.body

-- Whom an event touches: three strands at most.
abbrev pub touched : Core → Event → List Name
touched c (Run k name) = touched_by_run k (c.nodes k) name
touched c (Take origin k) = touched_by_first (c.links origin k)

-- An event does not touch the strand of a name.
abbrev pub IsOther : Core → Event → Name → Type 0
IsOther c event q = Contains (touched c event) q → ⊥

-- ---- the others

-- A nodelet has turns left.
abbrev pub has_turns : Setup → Core → ℕ → Bool
has_turns u c k = nat_lt (c.nodes k).served u.turns

-- A run of the context of a name leaves something at nodelet k: it is there, and does not wait.
abbrev pub can_go_on : Setup → Core → ℕ → Name → Bool
can_go_on u c k q = is_some (run u k (c.nodes k) q)

-- In a core to which legal events led, a strand that a legal event does not touch can go on at the event's nodelet if
-- and only if it could before, unless the event served the nodelet's last turn. (In other cores two strands can have
-- one ticket, and then the end of the one holds up that of the other.)
abbrev pub OthersGoOnAlike : Type 0
OthersGoOnAlike = (u : Setup) → is_sound u.code ≡ true → 1 ≤ u.nodelets → (events : List Event) (played : Played Node Packet) → IsPlayed u events played →
    (event : Event) (left : After Node Packet) → after (machine_of u) played.core event ≡ Some left →
    has_turns u left.core (nodelet_of event) ≡ has_turns u played.core (nodelet_of event) →
    (q : Name) → IsOther played.core event q → can_go_on u left.core (nodelet_of event) q ≡ can_go_on u played.core (nodelet_of event) q

-- The result that the context of a name is to bring is not kept at nodelet k yet, or the context is not there.
abbrev pub lacks_result : Core → ℕ → Name → Bool
lacks_result c k q = has_no_result (c.nodes k) (option_and_then (λ x. x.ticket) (context_of q (c.nodes k).contexts))

-- So it is in any core where besides its own result is kept there after the event if and only if it was before.
abbrev pub OthersGoOnUnlessHeld : Type 0
OthersGoOnUnlessHeld = (u : Setup) (c : Core) (event : Event) (left : After Node Packet) → after (machine_of u) c event ≡ Some left →
    has_turns u left.core (nodelet_of event) ≡ has_turns u c (nodelet_of event) →
    (q : Name) → IsOther c event q → lacks_result left.core (nodelet_of event) q ≡ lacks_result c (nodelet_of event) q →
    can_go_on u left.core (nodelet_of event) q ≡ can_go_on u c (nodelet_of event) q

-- In any core, the event leaves its context at that nodelet as it was.
abbrev pub OthersStand : Type 0
OthersStand = (u : Setup) (c : Core) (event : Event) (left : After Node Packet) → after (machine_of u) c event ≡ Some left →
    (q : Name) → IsOther c event q → context_of q (left.core.nodes (nodelet_of event)).contexts ≡ context_of q (c.nodes (nodelet_of event)).contexts

-- ---- other nodelets

-- What is left of the packets on the link from o to j: the first is gone where the event took it.
abbrev pub untaken : Core → Event → ℕ → ℕ → List Packet
untaken c (Run k name) o j = c.links o j
untaken c (Take origin k) o j = if o == origin && j == k then drop 1 (c.links o j) else c.links o j

-- Other nodelets have the same nodes; links from others have what was not taken; and what was sent comes last on
-- links from the event's nodelet, of which none was taken.
pub record ElsewhereIsSame (c : Core) (event : Event) (d : Core) : Type 0 where
  pub nodes : (j : ℕ) → j ≢ nodelet_of event → d.nodes j ≡ c.nodes j
  pub links : (o j : ℕ) → o ≢ nodelet_of event → d.links o j ≡ untaken c event o j
  pub sent : (j : ℕ) → (more : List Packet) × (d.links (nodelet_of event) j ≡ c.links (nodelet_of event) j ++ more)

abbrev pub EventsAreLocal : Type 0
EventsAreLocal = (u : Setup) (c : Core) (event : Event) (left : After Node Packet) → after (machine_of u) c event ≡ Some left →
    ElsewhereIsSame c event left.core
