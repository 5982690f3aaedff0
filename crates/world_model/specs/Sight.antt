-- When an action may be done, and where. What decides it is a strand's sight, which the world and a nodelet
-- read each in its own way.
use Rattle.std.specs.Prelude.{ℕ, Bool, true, false, not, ◌&&◌, ◌||◌, ◌==◌, nat_lt, if◌then◌else◌, Option, Some, is_some, None}
use Rattle.word_ops.specs.declared.place.Pos.{Pos}
use Rattle.data_layout.specs.Address.{view_of, is_valid, owner_of}
use Rattle.world_model.specs.Action.{Action, Turn, Load, Issue, Fetch, Init, Fence, Move, Where, Print, Alloc, Spawn, Sync, End, Trap, Local, Striped, Blocked, Replicated}
use Rattle.world_model.specs.Allocation.{server_of}

-- What a strand sees where it stands: this nodelet and the one where it was born; that nothing of its own is
-- pending; how many turns were served here; of the activation at a depth, that it has no child to join, and
-- that all of these have ended; and its late position.
pub record Sight : Type 0 where
  pub here : ℕ
  pub home : ℕ
  pub clear : Bool
  pub served : ℕ
  pub childless : ℕ → Bool
  pub all_ended : ℕ → Bool
  pub late : Option Pos

-- An action is bad where its address or its hint is not valid for n nodelets, and an Init besides where its
-- word is not replicated.
abbrev pub is_bad : ℕ → Action → Bool
is_bad n Turn = false
is_bad n (Load _ a) = not (is_valid a n)
is_bad n (Issue _ _ a _) = not (is_valid a n)
is_bad n (Fetch _ _ a) = not (is_valid a n)
is_bad n (Init _ a _) = not (is_valid a n && view_of a == 31)
is_bad n Fence = false
is_bad n (Move _ a) = not (is_valid a n)
is_bad n Where = false
is_bad n (Print _) = false
is_bad n (Alloc (Striped _)) = false
is_bad n (Alloc (Blocked _ _)) = false
is_bad n (Alloc (Local _ _ address)) = not (is_valid address n)
is_bad n (Alloc (Replicated _)) = false
is_bad n (Spawn _ _ _ None) = false
is_bad n (Spawn _ _ _ (Some hint)) = not (is_valid hint.address n)
is_bad n (Sync _) = false
is_bad n (End _) = false
is_bad n (Trap _ _) = false

-- The place of the strand after an action that is not bad.
abbrev pub place_after : ℕ → Sight → Action → ℕ
place_after n s Turn = s.here
place_after n s (Load _ a) = owner_of a s.here n
place_after n s (Issue _ _ _ _) = s.here
place_after n s (Fetch _ _ a) = owner_of a s.here n
place_after n s (Init _ _ _) = s.here
place_after n s Fence = s.here
place_after n s (Move _ a) = owner_of a s.here n
place_after n s Where = s.here
place_after n s (Print _) = 0
place_after n s (Alloc request) = server_of n s.here request
place_after n s (Spawn _ _ _ _) = s.here
place_after n s (Sync d) = if s.childless d then s.here else s.home
place_after n s (End _) = s.here
place_after n s (Trap _ _) = s.here

-- The action leaves the strand where it is.
abbrev pub stays : ℕ → Sight → Action → Bool
stays n s action = place_after n s action == s.here

-- A Sync is ready where its activation has no child to join. Else it is where all of these have ended and
-- the strand is at home or clear, and also where a late strand away from home is clear.
abbrev pub can_sync : Sight → ℕ → Bool
can_sync s d =
    let at_home = s.here == s.home in
    s.childless d || (s.all_ended d && (at_home || s.clear)) || (s.clear && is_some s.late && not at_home)

-- An action that is not bad is ready: a Turn while the nodelet has turns left; a Fence, a Spawn and an End once
-- the strand is clear; an Issue, an Init, a Where and a Trap always; any other where it leaves the strand in its
-- place, and else once the strand is clear.
abbrev pub can_act : ℕ → ℕ → Sight → Action → Bool
can_act n turns s Turn = nat_lt s.served turns
can_act n turns s (Load at a) = stays n s (Load at a) || s.clear
can_act n turns s (Issue _ _ _ _) = true
can_act n turns s (Fetch at f a) = stays n s (Fetch at f a) || s.clear
can_act n turns s (Init _ _ _) = true
can_act n turns s Fence = s.clear
can_act n turns s (Move at a) = stays n s (Move at a) || s.clear
can_act n turns s Where = true
can_act n turns s (Print bytes) = stays n s (Print bytes) || s.clear
can_act n turns s (Alloc request) = stays n s (Alloc request) || s.clear
can_act n turns s (Spawn _ _ _ _) = s.clear
can_act n turns s (Sync d) = can_sync s d
can_act n turns s (End _) = s.clear
can_act n turns s (Trap _ _) = true

-- A bad action is ready whatever the strand sees.
abbrev pub is_ready : ℕ → ℕ → Sight → Action → Bool
is_ready n turns s action = is_bad n action || can_act n turns s action

-- A ready action that is not bad is leaving where it is a Fence, a Spawn or an End, or changes the place.
abbrev pub is_leaving : ℕ → Sight → Action → Bool
is_leaving n s Turn = not (stays n s Turn)
is_leaving n s (Load at a) = not (stays n s (Load at a))
is_leaving n s (Issue at op a v) = not (stays n s (Issue at op a v))
is_leaving n s (Fetch at f a) = not (stays n s (Fetch at f a))
is_leaving n s (Init at a v) = not (stays n s (Init at a v))
is_leaving n s Fence = true
is_leaving n s (Move at a) = not (stays n s (Move at a))
is_leaving n s Where = not (stays n s Where)
is_leaving n s (Print bytes) = not (stays n s (Print bytes))
is_leaving n s (Alloc request) = not (stays n s (Alloc request))
is_leaving n s (Spawn _ _ _ _) = true
is_leaving n s (Sync d) = not (stays n s (Sync d))
is_leaving n s (End _) = true
is_leaving n s (Trap at kind) = not (stays n s (Trap at kind))
