-- The result of a child is sent only to the home that its ticket names.
use Rattle.std.proofs.Common.{◌≡◌, ℕ, zero, suc, [], ◌∷◌, Option, Some, None, refl, ap, ◌∙◌, subst, Bool, true, false, nat_lt, ℤ}
use Rattle.std.specs.Prelude.{if◌then◌else◌, ◌==◌}
use Rattle.std.specs.List.{list_all}
use Rattle.std.proofs.lemmas.Bool.{eqb-true, eq-eqb}
use Rattle.word_ops.specs.declared.name.Name.{Name}
use Rattle.word_ops.specs.declared.place.Pos.{Pos}
use Rattle.word_ops.specs.declared.ticket.Ticket.{Ticket}
use Rattle.mem_atomics.specs.declared.op.Op.{Op}
use Rattle.mem_atomics.specs.declared.op.Op.TheVariants.{Store}
use Rattle.data_layout.specs.Address.{owner_of}
use Rattle.data_layout.specs.Cursor.{allocated_at}
use Rattle.merge_law.specs.Machine.{Raw}
use Rattle.merge_law.proofs.Somes.{from_then, some_is}
use Rattle.world_model.specs.Action.{Action, Turn, Load, Issue, Fetch, Init, Fence, Move, Where, Print, Alloc, Spawn, Sync, End, Trap, Request, Striped, Blocked, Local, Replicated}
use Rattle.world_model.specs.Allocation.{taken_from}
use Rattle.world_model.specs.World.{Operation, Grant, Extent}
use Rattle.world_model.specs.Effect.{grant_of, birthplace}
use Rattle.threadlet_code.specs.Machine.{State, Next, goes, asks, stops, stuck, step}
use Rattle.threadlet_code.specs.Running.{halt}
use Rattle.core_model.specs.Contexts.{Context, Body, Arrival, Issued, Ack, Returned, context_of}
use Rattle.core_model.specs.Nodes.{Setup, Node, with_strand, with_issued, with_result, posted_to, ended_for, sent_away}
use Rattle.core_model.specs.Effects.{Sends, only_to, to_all, quiet, sending, operated, effect, ended, child_of, born, issued, announced, allocated}
use Rattle.core_model.specs.Runs.{action_in, Way, Refused, DoneHere, SentTo, Waits, way_of, sight_at, is_free, outside, has_effect, done_here, stays_before, by_way, taken_up, last_done, run}
use Rattle.core_model.specs.Takes.{late_of, take}

-- ---- bodies

-- a result goes to its ticket's home, and anything else anywhere
abbrev pub goes_to : ℕ → Body → Bool
goes_to k (Arrival x) = true
goes_to k (Issued q item) = true
goes_to k (Ack q late) = true
goes_to k (Returned t value) = t.home == k

-- so do all that are sent to each nodelet
abbrev pub AllGo : Sends → Type 0
AllGo sends = (k : ℕ) → list_all (goes_to k) (sends k) ≡ true

only_goes : (to : ℕ) (body : Body) → goes_to to body ≡ true → AllGo (only_to to body)
only_goes to body e k = go (k == to) refl
  where
    go : (t : Bool) → (k == to) ≡ t → list_all (goes_to k) (if t then body ∷ [] else []) ≡ true
    go false f = refl
    go true f = let z : goes_to k body ≡ true = ap (λ j. goes_to j body) (eqb-true _ _ f) ∙ e in rw z refl

all_go : (n : ℕ) (body : Body) → ((k : ℕ) → goes_to k body ≡ true) → AllGo (to_all n body)
all_go n body e k = go (nat_lt k n)
  where
    go : (t : Bool) → list_all (goes_to k) (if t then body ∷ [] else []) ≡ true
    go false = refl
    go true = let z : goes_to k body ≡ true = e k in rw z refl

-- ---- what an effect sends

issued_goes : (here : ℕ) (v : Node) (name : Name) (at : Pos) (op : Op) (a word : ℤ) (owner : ℕ) → AllGo (issued here v name at op a word owner).sends
issued_goes here v name at op a word owner k =
    elim (owner == here) as (λ t. list_all (goes_to k) ((if t then quiet (posted_to owner (operated v op a word)) []
    else sending (posted_to owner (with_issued v name 1)) (only_to owner (Issued name (Operation op a word at)))).sends k) ≡ true)
    [ true ↦ refl | false ↦ only_goes owner (Issued name (Operation op a word at)) refl k ]

announced_goes : (n : ℕ) (v : Node) (name : Name) (request : Request) (o : Option Extent) (address : ℤ) → AllGo (announced n v name request o address).sends
announced_goes n v name request None address k = refl
announced_goes n v name (Local at c a) (Some extent) address k = refl
announced_goes n v name (Striped c) (Some extent) address k = all_go n (Issued name (Grant extent)) (λ j. refl) k
announced_goes n v name (Blocked b c) (Some extent) address k = all_go n (Issued name (Grant extent)) (λ j. refl) k
announced_goes n v name (Replicated c) (Some extent) address k = all_go n (Issued name (Grant extent)) (λ j. refl) k

allocated_goes : (u : Setup) (v : Node) (name : Name) (request : Request) (o : Option (ℕ × ℤ)) → AllGo (allocated u v name request o).sends
allocated_goes u v name request None k = refl
allocated_goes u v name request (Some (view, count)) k =
    announced_goes u.nodelets _ name request (grant_of u.rules (allocated_at v.cursors view count) count) (allocated_at v.cursors view count) k

born_goes : (here : ℕ) (v : Node) (child : Context) → AllGo (born here v child).sends
born_goes here v child k =
    elim (child.home == here) as (λ t. list_all (goes_to k) ((if t then record (quiet (with_strand v child) []) { child = Some child.name }
    else record (sending (sent_away v) (only_to child.home (Arrival child))) { child = Some child.name }).sends k) ≡ true)
    [ true ↦ refl | false ↦ only_goes child.home (Arrival child) refl k ]

ended_goes : (here : ℕ) (v : Node) (ticket : Option Ticket) (value : ℤ) → AllGo (ended here v ticket value).sends
ended_goes here v None value k = refl
ended_goes here v (Some t) value k =
    elim (t.home == here) as (λ b. list_all (goes_to k) ((if b then quiet (ended_for t.home (with_result v t value)) []
    else sending (ended_for t.home v) (only_to t.home (Returned t value))).sends k) ≡ true)
    [ true ↦ refl | false ↦ only_goes t.home (Returned t value) (eq-eqb t.home t.home refl) k ]

effect_goes : (u : Setup) (here : ℕ) (v : Node) (x : Context) (state : State) (action : Action) → AllGo (effect u here v x state action).sends
effect_goes u here v x state Turn k = refl
effect_goes u here v x state Where k = refl
effect_goes u here v x state (Print bytes) k = refl
effect_goes u here v x state (Spawn d f args hint) k = born_goes here _ (child_of u here v x state d f args (birthplace u.nodelets here hint)) k
effect_goes u here v x state (Sync d) k = refl
effect_goes u here v x state (End value) k = ended_goes here v x.ticket value k
effect_goes u here v x state (Load at a) k = refl
effect_goes u here v x state (Fetch at f a) k = refl
effect_goes u here v x state (Issue at op a word) k = issued_goes here v x.name at op a word (owner_of a here u.nodelets) k
effect_goes u here v x state (Init at a word) k = all_go u.nodelets (Issued x.name (Operation Store a word at)) (λ j. refl) k
effect_goes u here v x state (Alloc request) k = allocated_goes u v x.name request (taken_from u.nodelets here request) k
effect_goes u here v x state Fence k = refl
effect_goes u here v x state (Move at a) k = refl
effect_goes u here v x state (Trap at kind) k = refl

-- ---- what a run sends

module _ (u : Setup) (here : ℕ) (v : Node) where
  abbrev RawGoes : Raw Node Body → Type 0
  RawGoes raw = AllGo raw.bodies

  goes_as : (r raw : Raw Node Body) → Some r ≡ Some raw → RawGoes r → RawGoes raw
  goes_as r raw e h = subst (λ (y : Raw Node Body). RawGoes y) (some_is r raw e) h

  last_goes : (x : Context) (state : State) (count : ℕ) (action : Action) → RawGoes (last_done u here v x state count action)
  last_goes x state count (Trap at kind) k = refl
  last_goes x state count Turn k = effect_goes u here v x state Turn k
  last_goes x state count (Load at a) k = effect_goes u here v x state (Load at a) k
  last_goes x state count (Issue at op a word) k = effect_goes u here v x state (Issue at op a word) k
  last_goes x state count (Fetch at f a) k = effect_goes u here v x state (Fetch at f a) k
  last_goes x state count (Init at a word) k = effect_goes u here v x state (Init at a word) k
  last_goes x state count Fence k = effect_goes u here v x state Fence k
  last_goes x state count (Move at a) k = effect_goes u here v x state (Move at a) k
  last_goes x state count Where k = effect_goes u here v x state Where k
  last_goes x state count (Print bytes) k = effect_goes u here v x state (Print bytes) k
  last_goes x state count (Alloc request) k = effect_goes u here v x state (Alloc request) k
  last_goes x state count (Spawn d f args hint) k = effect_goes u here v x state (Spawn d f args hint) k
  last_goes x state count (Sync d) k = effect_goes u here v x state (Sync d) k
  last_goes x state count (End value) k = effect_goes u here v x state (End value) k

  has_effect_goes : (x : Context) (state : State) (count : ℕ) (next : Next) (raw : Raw Node Body) → has_effect u here v x state count next ≡ Some raw → RawGoes raw
  has_effect_goes x state count (asks action resume) raw e = goes_as _ raw e (λ k. effect_goes u here v x state action k)
  has_effect_goes x state count (stops action) raw e = goes_as _ raw e (last_goes x state count action)
  has_effect_goes x state count (goes after) raw e = absurd cc
  has_effect_goes x state count stuck raw e = absurd cc

  done_goes : (x : Context) (state : State) (count : ℕ) (next : Next) (o : Option Pos) (raw : Raw Node Body) → done_here u here v x state count next o ≡ Some raw → RawGoes raw
  done_goes x state count next None raw e = has_effect_goes x state count next raw e
  done_goes x state count next (Some at) raw e = goes_as _ raw e (λ k. refl)

  stays_goes : (x : Context) (state : State) (silent : ℕ) (raw : Raw Node Body) → stays_before v x state silent ≡ Some raw → RawGoes raw
  stays_goes x state zero raw e = absurd cc
  stays_goes x state (suc m) raw e = goes_as _ raw e (λ k. refl)

  way_goes : (x : Context) (state : State) (silent : ℕ) (next : Next) (action : Action) (way : Way) (raw : Raw Node Body) → by_way u here v x state silent next action way ≡ Some raw → RawGoes raw
  way_goes x state silent next action (Refused kind at) raw e = goes_as _ raw e (λ k. refl)
  way_goes x state silent next action DoneHere raw e = done_goes x state (suc silent) next (outside u here v action) raw e
  way_goes x state silent next action (SentTo to) raw e = goes_as _ raw e (only_goes to (Arrival (record x { state = state })) refl)
  way_goes x state silent next action Waits raw e = stays_goes x state silent raw e

  pub run_goes : (q : Name) (raw : Raw Node Body) → run u here v q ≡ Some raw → RawGoes raw
  run_goes q raw e =
      let found = from_then (λ (x : Context). taken_up u here v x (halt u.code x.state)) (context_of q v.contexts) raw e in
      let x : Context = found.value in
      let state : State = (halt u.code x.state).state in
      let silent : ℕ = (halt u.code x.state).silent in
      let next : Next = step u.code state in
      let way : Action → Way = λ action. way_of u.nodelets u.turns (sight_at here v x state) action (is_free here v x.ticket action) in
      let acts = from_then (λ (action : Action). by_way u here v x state silent next action (way action)) (action_in next) raw found.next in
      way_goes x state silent next acts.value (way acts.value) raw acts.next

-- ---- what a take sends

pub take_goes : (u : Setup) (here : ℕ) (v : Node) (origin : ℕ) (body : Body) → AllGo (take u here v origin body).bodies
take_goes u here v origin (Arrival x) k = refl
take_goes u here v origin (Issued q item) k = only_goes origin (Ack q (late_of u v item)) refl k
take_goes u here v origin (Ack q late) k = refl
take_goes u here v origin (Returned t value) k = refl
