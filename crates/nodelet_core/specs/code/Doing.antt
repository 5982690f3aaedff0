-- What an event does to a nodelet that the code keeps, its entry aside.
use Rattle.std.specs.Prelude.{⊤, ◌≡◌, ◌<◌, ◌==◌, ◌||◌, ℕ, suc, ◌-◌, ℤ, pos, List, [], ◌∷◌, ◌++◌, length, map, All, Contains, Bool, true, false, if◌then◌else◌, Option, Some, None}
use Rattle.word_ops.specs.declared.name.Name.{Name}
use Rattle.word_ops.specs.declared.place.Pos.{Pos}
use Rattle.word_ops.specs.declared.ending.TrapKind.{TrapKind}
use Rattle.word_ops.specs.declared.rules.Rules.{Rules}
use Rattle.word_ops.specs.declared.step.Entry.{Entry}
use Rattle.word_ops.specs.declared.step.NodeEvent.TheVariants.{Run}
use Rattle.word_ops.specs.declared.step.Step.{Step}
use Rattle.word_ops.specs.declared.step.Step.TheVariants.{Apply}
use Rattle.word_ops.specs.Naming.{same_name}
use Rattle.word_ops.specs.Operators.{same_word}
use Rattle.data_layout.specs.Address.{owner_of}
use Rattle.data_layout.specs.Cursor.{allocated_at, cursors_after}
use Rattle.world_model.specs.World as world
use Rattle.world_model.specs.World.{Extent}
use Rattle.world_model.specs.Effect.{grant_of}
use Rattle.world_model.specs.Action as act
use Rattle.threadlet_code.specs.declared.code.Code.{Code}
use Rattle.threadlet_code.specs.Machine.{step}
use Rattle.threadlet_state.specs.declared.frame.Frame.{Frame}
use Rattle.threadlet_state.specs.declared.context.Context as carried
use Rattle.threadlet_state.specs.declared.packet.Body as sent_body
use Rattle.threadlet_state.specs.declared.packet.Body.TheVariants as by
use Rattle.threadlet_state.specs.Activations.{state_of}
use Rattle.threadlet_state.specs.Fit.{frames_fit}
use Rattle.world_model.specs.Action.{Action}
use Rattle.merge_law.specs.Machine.{is_linked, last_stamp}
use Rattle.nodelet_core.specs.declared.nodelet.Nodelet.{Nodelet}
use Rattle.nodelet_core.specs.declared.due.Due.{Due}
use Rattle.nodelet_core.specs.declared.due.Due.TheVariants as due
use Rattle.nodelet_core.specs.declared.due.Hint.{Hint}
use Rattle.nodelet_core.specs.declared.due.Request.{Request}
use Rattle.nodelet_core.specs.declared.due.Request.TheVariants as request
use Rattle.nodelet_core.specs.declared.children.Handed.{Handed}
use Rattle.nodelet_core.specs.declared.sight.Way as coded
use Rattle.nodelet_core.specs.declared.sending.Item.{Item}
use Rattle.nodelet_core.specs.declared.sending.Item.TheVariants as item
use Rattle.nodelet_core.specs.declared.counting.Counted.{Counted}
use Rattle.core_model.specs.Nodes.{Node, with_strand, without_strand, with_trap, moved_from}
use Rattle.nodelet_core.specs.code.Counted.{counted, at_number}
use Rattle.nodelet_mem.specs.Words.{word_of}
use Rattle.core_model.specs.Contexts.{Issued}
use Rattle.nodelet_core.specs.Carried.{context_in, body_in}
use Rattle.core_model.specs.Takes.{take, can_come}
use Rattle.core_model.specs.Effects.{Sends, nothing, to_all, with_fresh, child_of, next_name}
use Rattle.core_model.specs.Runs.{Outcome, Way, DoneHere, sight_at, is_free, way_of, action_in, has_effect, by_way}
use Rattle.core_model.specs.Machine.{packet_of, stamped_node}
use Rattle.nodelet_core.specs.code.Dues.{due_of, way_seen}
use Rattle.nodelet_core.specs.code.Standing.{is_among}
use Rattle.nodelet_core.specs.Kept.{node_of, setup_of, all_fit, names_at, packet_in, packet_fits, SameSettings}
use Rattle.nodelet_core.specs.Left.{Sent}

-- What nodelet `here` of n has sent more, with a stamp: these bodies, but for those to itself.
pub record SentMore (code : Code) (n here stamp : ℕ) (bodies : Sends) (before after : Sent) : Type 0 where
  pub more : Sent
  pub sent : (k : ℕ) → after k ≡ before k ++ more k
  pub told : (k : ℕ) → map (packet_in code) (more k) ≡ (if is_linked n here k then map (packet_of stamp) (bodies k) else [])
  pub fit : (k : ℕ) → All (λ p. packet_fits code p ≡ true) (more k)

-- An event has left what an outcome says, and its entry is still to come.
pub record Left (code : Code) (stamp : ℕ) (before after : Nodelet) (sent_before sent_after : Sent) (left : Outcome) : Type 0 where
  pub settings : SameSettings before after
  pub node : node_of code after ≡ stamped_node stamp left.node
  pub entries : after.entries ≡ before.entries
  pub fits : all_fit code before ≡ true → all_fit code after ≡ true
  pub sends : SentMore code before.nodelets before.number stamp left.bodies sent_before sent_after

-- ---- a context that goes on

-- A context can stand at a nodelet in place of the one of its name.
pub record CanStand (code : Code) (v : Nodelet) (x : carried.Context) : Type 0 where
  pub stamp : v.stamp < last_stamp
  pub here : Contains (names_at v) x.name
  pub among : is_among v.nodelets x ≡ true
  pub fits : frames_fit code x.frames ≡ true

-- What becomes of the action of a context.
abbrev pub way_in : Code → Nodelet → carried.Context → Action → Way
way_in code v x action =
    let state = state_of code x.frames in
    way_of v.nodelets v.turns (sight_at v.number (node_of code v) (context_in code x) state) action (is_free v.number (node_of code v) x.ticket action)

-- A context is due an action, of which this is what decides; it is done here.
pub record IsDueHere (code : Code) (v : Nodelet) (x : carried.Context) (due : Due) : Type 0 where
  pub stands : CanStand code v x
  pub action : Action
  pub comes : action_in (step code (state_of code x.frames)) ≡ Some action
  pub decides : due_of action ≡ due
  pub done_here : way_in code v x action ≡ DoneHere

-- The action that a context was due had its effect.
abbrev pub HadEffect : Code → Nodelet → Nodelet → Sent → Sent → carried.Context → Due → Type 0
HadEffect code before after sent_before sent_after x due =
    let state = state_of code x.frames in
    (action : Action) (count : ℕ) (left : Outcome) → action_in (step code state) ≡ Some action → due_of action ≡ due
    → has_effect (setup_of code before) before.number (node_of code before) (context_in code x) state count (step code state) ≡ Some left
    → Left code (suc before.stamp) before after sent_before sent_after left

-- ---- the nodelet with one thing changed

-- So many items of a strand are no longer under way.
abbrev pub with_withdrawn : Node → Name → ℕ → Node
with_withdrawn v name items = record v { under_way = λ q. if same_name q name then v.under_way q - items else v.under_way q }

-- Main has ended.
abbrev pub with_value : Node → ℤ → Node
with_value v value = record v { main_value = Some value }

-- ---- allocation

-- Local words are served where their address is owned.
abbrev pub IsServedHere : ℕ → ℕ → Request → Type 0
IsServedHere n here (request.Local at words address) = owner_of address here n ≡ here
IsServedHere n here _ = ⊤

-- What the cursors give for what a request takes.
abbrev pub address_for : Node → Option (ℕ × ℤ) → ℤ
address_for v None = pos 0
address_for v (Some (view, count)) = allocated_at v.cursors view count

abbrev pub with_cursors : ℕ → Node → Option (ℕ × ℤ) → Node
with_cursors n v None = v
with_cursors n v (Some (view, count)) = record v { cursors = cursors_after n v.cursors view count }

-- ---- items

abbrev pub item_of : Item → world.Item
item_of (item.Operation op address word at) = world.Operation op address word at
item_of (item.Grant first count) = world.Grant (record { first = first; count = count })

-- ---- a packet that is taken

-- What a packet carries can come from an origin, by some code: which one decides nothing.
pub record IsAwaitedBody (v : Nodelet) (origin : ℕ) (body : sent_body.Body) : Type 0 where
  pub linked : is_linked v.nodelets v.number origin ≡ true
  pub code : Code
  pub comes : can_come (setup_of code v) v.number (node_of code v) (body_in code body) ≡ true

-- What a packet carries was taken.
abbrev pub LeftTaking : Code → ℕ → Nodelet → Nodelet → Sent → Sent → ℕ → sent_body.Body → Type 0
LeftTaking code stamp before after sent_before sent_after origin body =
    Left code stamp before after sent_before sent_after (take (setup_of code before) before.number (node_of code before) origin (body_in code body))

-- The step that the taking of this at a nodelet does, if any.
abbrev pub step_of_body : ℕ → sent_body.Body → Option Step
step_of_body nodelet (by.Op name op address word at) = Some (Apply name nodelet)
step_of_body nodelet (by.Grant name first count) = Some (Apply name nodelet)
step_of_body nodelet _ = None

-- ---- a context that goes on or is gone

-- A context with its place here.
abbrev pub placed : ℕ → carried.Context → carried.Context
placed here x = record x { place = here }

-- It goes on here, in an event that counts this besides where it came from.
abbrev pub goes_on_at : ℕ → ℕ → Counted → carried.Context → Code → Node → Node
goes_on_at n here c x code v =
    with_strand (counted n here (record c { moved_from = Some x.place }) (stamped_node (suc v.stamp) v)) (context_in code (placed here x))

-- The context of a name is gone, in an event that counts this.
abbrev pub goes_from : ℕ → ℕ → Counted → Name → Code → Node → Node
goes_from n here c name code v = without_strand (counted n here c (stamped_node (suc v.stamp) v)) name

-- A strand traps here, and its step may have changed its place.
abbrev pub traps_at : ℕ → Name → TrapKind → Pos → Option ℕ → Code → Node → Node
traps_at here name kind at from code v =
    let w = at_number from (moved_from here) (stamped_node (suc v.stamp) v) in
    with_trap (without_strand w name) (record { stamp = suc v.stamp; kind = kind; pos = at; name = name })

-- An action sends nothing.
abbrev pub is_quiet : Due → Bool
is_quiet (due.Issue at op a v) = false
is_quiet (due.Init at a v) = false
is_quiet (due.Alloc request) = false
is_quiet (due.Spawn hint) = false
is_quiet (due.End value) = false
is_quiet _ = true

-- An action changes nothing at a nodelet and has these words for an answer.
abbrev pub PassesWith : Nodelet → Due → List ℤ → Type 0
PassesWith v due.Fence words = words ≡ []
PassesWith v (due.Move at a) words = words ≡ []
PassesWith v due.Where words = words ≡ pos v.number ∷ []
PassesWith v (due.Load at a) words = words ≡ word_of v.words a ∷ []
PassesWith v _ words = ⊥

-- Operations are issued.
abbrev pub is_post : Due → Bool
is_post (due.Issue at op a v) = true
is_post (due.Init at a v) = true
is_post _ = false

-- ---- grants

-- The words that a request is granted.
abbrev pub fresh_of : Rules → Node → Option (ℕ × ℤ) → Option Extent
fresh_of rules v None = None
fresh_of rules v (Some (view, count)) = grant_of rules (allocated_at v.cursors view count) count

-- So many words from an address on, if there are any and it is not 0.
abbrev pub grant_for : ℕ → ℤ → Option Extent
grant_for count address = if count == 0 || same_word address (pos 0) then None else Some (record { first = address; count = count })

-- Words that a request takes are granted here, if an address was answered.
abbrev pub with_taken : ℕ → ℕ → ℤ → Option (ℕ × ℤ) → Node → Node
with_taken n count address taken v = with_fresh (with_cursors n v taken) (grant_for count address)

-- Items stay under way that carry their grant, and are withdrawn where none was answered.
abbrev pub kept_for : Name → ℕ → ℤ → Node → Node
kept_for name items address v = if same_word address (pos 0) then with_withdrawn v name items else v

-- The grant is sent to each other nodelet, if an address was answered.
abbrev pub grant_sends : ℕ → Name → ℤ → ℕ → Sends
grant_sends n name address count =
    if same_word address (pos 0) then nothing else to_all n (Issued name (world.Grant (record { first = address; count = count })))

abbrev pub is_local : Request → Bool
is_local (request.Local at words address) = true
is_local _ = false

-- ---- children

-- What a Spawn hands to its child is this.
abbrev pub Hands : Code → List Frame → Handed → Type 0
Hands code frames handed = (action : Action) (hint : Option Hint) → action_in (step code (state_of code frames)) ≡ Some action →
    due_of action ≡ due.Spawn hint →
    (inner : Option act.Hint) × (action ≡ act.Spawn (length frames) handed.function handed.words.now inner)

-- A context is the child that a Spawn gives birth to at nodelet k.
pub record IsChild (code : Code) (v : Nodelet) (x : carried.Context) (k : ℕ) (child : carried.Context) : Type 0 where
  pub is : (action : Action) (d function : ℕ) (args : List ℤ) (hint : Option act.Hint) → action_in (step code (state_of code x.frames)) ≡ Some action →
      action ≡ act.Spawn d function args hint →
      context_in code child ≡ child_of (setup_of code v) v.number (node_of code v) (context_in code x) (state_of code x.frames) d function args k
  pub fits : frames_fit code child.frames ≡ true

-- The name of the child that an action gives birth to.
abbrev pub child_named : ℕ → Node → Due → Option Name
child_named here v (due.Spawn hint) = Some (next_name here v)
child_named here v _ = None

-- ---- a run

-- What becomes of the action that a context is due.
pub record IsWayOf (code : Code) (v : Nodelet) (x : carried.Context) (due : Due) (way : coded.Way) : Type 0 where
  pub action : Action
  pub comes : action_in (step code (state_of code x.frames)) ≡ Some action
  pub decides : due_of action ≡ due
  pub is : way_in code v x action ≡ way_seen way

-- What became of it was done.
abbrev pub FollowedWay : Code → Nodelet → Nodelet → Sent → Sent → carried.Context → Due → coded.Way → Type 0
FollowedWay code before after sent_before sent_after x due way =
    let state = state_of code x.frames in
    (action : Action) (silent : ℕ) (left : Outcome) → action_in (step code state) ≡ Some action → due_of action ≡ due
    → by_way (setup_of code before) before.number (node_of code before) (context_in code x) state silent (step code state) action (way_seen way) ≡ Some left
    → Left code (suc before.stamp) before after sent_before sent_after left

-- The entry of a context that went on, by what became of its action.
abbrev pub LeavesEntry : Code → Nodelet → carried.Context → ℕ → Due → coded.Way → Entry → Type 0
LeavesEntry code v x silent due way entry =
    let state = state_of code x.frames in
    (action : Action) (left : Outcome) → action_in (step code state) ≡ Some action → due_of action ≡ due
    → by_way (setup_of code v) v.number (node_of code v) (context_in code x) state silent (step code state) action (way_seen way) ≡ Some left
    → entry ≡ record { stamp = suc v.stamp; event = Run x.name left.count; step = left.step }
