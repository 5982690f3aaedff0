-- What the world is after an action that is done.
use Rattle.std.specs.Prelude.{ℕ, ℤ, pos, List, [], ◌∷◌, ◌++◌, map, filter, not, ◌==◌, if◌then◌else◌, unsigned_abs, Option, Some, None, is_some, unwrap_or}
use Rattle.std.specs.List.{list_all}
use Rattle.word_ops.specs.declared.place.Pos.{Pos}
use Rattle.word_ops.specs.declared.name.Name.{Name}
use Rattle.word_ops.specs.declared.rules.Rules.{Rules}
use Rattle.word_ops.specs.declared.rules.Rules.TheVariants.{Loose, Checked}
use Rattle.word_ops.specs.Operators.{same_word}
use Rattle.mem_atomics.specs.declared.op.Op.{Op}
use Rattle.mem_atomics.specs.declared.op.Op.TheVariants.{Store}
use Rattle.mem_atomics.specs.declared.fetch_op.FetchOp.{FetchOp}
use Rattle.mem_atomics.specs.NewWord.{applied, fetched}
use Rattle.data_layout.specs.Address.{owner_of}
use Rattle.data_layout.specs.Cursor.{allocated_at, cursors_after}
use Rattle.world_model.specs.Action.{Action, Turn, Load, Issue, Fetch, Init, Fence, Move, Where, Print, Alloc, Spawn, Sync, End, Trap, Request, Local, Hint, Striped, Blocked, Replicated}
use Rattle.world_model.specs.Allocation.{server_of, taken_from}
use Rattle.world_model.specs.Sight.{Sight, place_after}
use Rattle.world_model.specs.World.{Setting, Extent, Operation, Grant, Live, Ended, Strand, World, is_empty, is_clear, strand_of, children_at, value_of, with_strand, with_word, with_grant, with_turn, with_piece, with_pending, with_pending_but, with_trap, with_answer}

-- What a strand of the world sees.
abbrev pub sight_of : Setting → World → Strand → Sight
sight_of u w s = record {
  here = s.place;
  home = s.home;
  clear = is_clear u.nodelets s;
  served = w.turns s.place;
  childless = λ d. is_empty (children_at d s.children);
  all_ended = λ d. list_all (λ child. is_some (value_of w child)) (children_at d s.children);
  late = s.late;
}

-- The strand goes on at nodelet k with an answer.
abbrev pub goes_on : World → Name → Strand → ℕ → List ℤ → World
goes_on w name s k answer = with_strand w name (with_answer s k answer)

-- ---- memory

-- A load answers the word at its owner.
abbrev pub loaded : Setting → World → Name → Strand → ℤ → World
loaded u w name s a =
    let k = owner_of a s.place u.nodelets in
    goes_on w name s k (w.cells k a ∷ [])

-- A fetch answers the old word and leaves the new one.
abbrev pub exchanged : Setting → World → Name → Strand → FetchOp → ℤ → World
exchanged u w name s f a =
    let k = owner_of a s.place u.nodelets in
    goes_on (with_word w k a (fetched f (w.cells k a))) name s k (w.cells k a ∷ [])

-- An operation is done at once where the strand is at the owner, and else is pending there.
abbrev pub issued : Setting → World → Name → Strand → Pos → Op → ℤ → ℤ → World
issued u w name s at op a v =
    let k = owner_of a s.place u.nodelets in
    if k == s.place
    then goes_on (with_word w k a (applied op (w.cells k a) v)) name s k []
    else goes_on w name (with_pending s k (Operation op a v at)) s.place []

-- An Init stores the place's copy at once, and has a store pending at each other nodelet.
abbrev pub initialized : Setting → World → Name → Strand → Pos → ℤ → ℤ → World
initialized u w name s at a v =
    goes_on (with_word w s.place a v) name (with_pending_but u.nodelets s s.place (Operation Store a v at)) s.place []

-- ---- allocation

-- The words that an allocation grants: under the checked rules those that it answers, where it answers any.
abbrev pub grant_of : Rules → ℤ → ℤ → Option Extent
grant_of Loose address count = None
grant_of Checked address count =
    if same_word address (pos 0) then None else Some (record { first = address; count = unsigned_abs count })

-- They are granted at the serving nodelet.
abbrev pub with_fresh : World → ℕ → Option Extent → World
with_fresh w k None = w
with_fresh w k (Some extent) = with_grant w k extent

-- And at each other nodelet the grant is pending, but for local words.
abbrev pub announces : ℕ → Strand → ℕ → Request → Option Extent → Strand
announces n s k request None = s
announces n s k (Striped _) (Some extent) = with_pending_but n s k (Grant extent)
announces n s k (Blocked _ _) (Some extent) = with_pending_but n s k (Grant extent)
announces n s k (Local _ _ _) (Some extent) = s
announces n s k (Replicated _) (Some extent) = with_pending_but n s k (Grant extent)

-- A request that takes nothing answers 0, and any other what its view's cursor gives.
abbrev pub served_with : Setting → World → Name → Strand → Request → Option (ℕ × ℤ) → World
served_with u w name s request None = goes_on w name s (server_of u.nodelets s.place request) (pos 0 ∷ [])
served_with u w name s request (Some (view, count)) =
    let k = server_of u.nodelets s.place request in
    let address = allocated_at w.cursors view count in
    let fresh = grant_of u.rules address count in
    let moved : World = record w { cursors = cursors_after u.nodelets w.cursors view count } in
    goes_on (with_fresh moved k fresh) name (announces u.nodelets s k request fresh) k (address ∷ [])

-- ---- parents and children

-- The nodelet where a child is born: its hint's owner, or its parent's place.
abbrev pub birthplace : ℕ → ℕ → Option Hint → ℕ
birthplace n here None = here
birthplace n here (Some hint) = owner_of hint.address here n

-- A strand that has just been born at nodelet k.
abbrev pub newborn : ℕ → List ℤ → ℕ → Strand
newborn function args k = record {
  function = function;
  args = args;
  home = k;
  place = k;
  answers = [];
  pending = λ _. [];
  children = [];
  late = None;
  status = Live;
}

-- The child is one more to join for its parent's activation.
abbrev pub with_child : Strand → ℕ → Name → Strand
with_child s d child = record s { children = s.children ++ (d, child) ∷ [] }

-- The children of an activation are joined.
abbrev pub without_children : Strand → ℕ → Strand
without_children s d = record s { children = filter (λ child. not (child.0 == d)) s.children }

-- The child's name is one that no strand of the world has.
abbrev pub spawned : Setting → World → Name → Strand → Name → ℕ → ℕ → List ℤ → Option Hint → Option World
spawned u w name s child d function args hint =
    let born = with_strand w child (newborn function args (birthplace u.nodelets s.place hint)) in
    if is_some (strand_of w child) then None else Some (goes_on born name (with_child s d child) s.place [])

-- A Sync takes the strand home where it has children to join, and answers their values in spawn order.
abbrev pub joined : Setting → World → Name → Strand → ℕ → World
joined u w name s d =
    let values = map (λ child. unwrap_or (value_of w child) (pos 0)) (children_at d s.children) in
    goes_on w name (without_children s d) (place_after u.nodelets (sight_of u w s) (Sync d)) values

-- ---- all actions

-- The world after an action that names no child.
abbrev pub own_effect : Setting → World → Name → Strand → Action → Option World
own_effect u w name s Turn = Some (goes_on (with_turn w s.place) name s s.place [])
own_effect u w name s (Load at a) = Some (loaded u w name s a)
own_effect u w name s (Issue at op a v) = Some (issued u w name s at op a v)
own_effect u w name s (Fetch at f a) = Some (exchanged u w name s f a)
own_effect u w name s (Init at a v) = Some (initialized u w name s at a v)
own_effect u w name s Fence = Some (goes_on w name s s.place [])
own_effect u w name s (Move at a) = Some (goes_on w name s (owner_of a s.place u.nodelets) [])
own_effect u w name s Where = Some (goes_on w name s s.place (pos s.place ∷ []))
own_effect u w name s (Print bytes) = Some (goes_on (with_piece w bytes) name s 0 [])
own_effect u w name s (Alloc request) = Some (served_with u w name s request (taken_from u.nodelets s.place request))
own_effect u w name s (Spawn _ _ _ _) = None
own_effect u w name s (Sync d) = Some (joined u w name s d)
own_effect u w name s (End value) = Some (with_strand w name (record s { status = Ended value }))
own_effect u w name s (Trap at kind) = Some (with_strand w name (with_trap s s.place kind at))

-- The world after an action that is done; a child is named for a Spawn alone.
abbrev pub effect : Setting → World → Name → Strand → Option Name → Action → Option World
effect u w name s (Some child) Turn = None
effect u w name s (Some child) (Load _ _) = None
effect u w name s (Some child) (Issue _ _ _ _) = None
effect u w name s (Some child) (Fetch _ _ _) = None
effect u w name s (Some child) (Init _ _ _) = None
effect u w name s (Some child) Fence = None
effect u w name s (Some child) (Move _ _) = None
effect u w name s (Some child) Where = None
effect u w name s (Some child) (Print _) = None
effect u w name s (Some child) (Alloc _) = None
effect u w name s (Some child) (Spawn d function args hint) = spawned u w name s child d function args hint
effect u w name s (Some child) (Sync _) = None
effect u w name s (Some child) (End _) = None
effect u w name s (Some child) (Trap _ _) = None
effect u w name s None action = own_effect u w name s action
