-- What an action does that is done at a nodelet.
use Rattle.std.specs.Prelude.{ℕ, suc, ◌-◌, ℤ, pos, List, [], ◌∷◌, map, ◌==◌, nat_lt, if◌then◌else◌, Option, Some, None, unwrap_or}
use Rattle.word_ops.specs.declared.place.Pos.{Pos}
use Rattle.word_ops.specs.declared.name.Name.{Name}
use Rattle.word_ops.specs.declared.ticket.Ticket.{Ticket}
use Rattle.word_ops.specs.Report.{below}
use Rattle.mem_atomics.specs.declared.op.Op.{Op}
use Rattle.mem_atomics.specs.declared.op.Op.TheVariants.{Store}
use Rattle.mem_atomics.specs.NewWord.{applied, fetched}
use Rattle.data_layout.specs.Address.{owner_of}
use Rattle.data_layout.specs.Cursor.{allocated_at, cursors_after}
use Rattle.world_model.specs.Action.{Action, Turn, Load, Issue, Fetch, Init, Where, Print, Alloc, Spawn, Sync, End, Request, Local, Hint}
use Rattle.world_model.specs.Allocation.{taken_from}
use Rattle.world_model.specs.World.{Operation, Grant, Extent}
use Rattle.world_model.specs.Effect.{grant_of, birthplace}
use Rattle.threadlet_code.specs.Machine.{State}
use Rattle.threadlet_code.specs.Running.{started, owed}
use Rattle.std.specs.Prelude.{slice_get}
use Rattle.core_model.specs.Contexts.{Context, Body, Arrival, Issued, Returned}
use Rattle.core_model.specs.Nodes.{Setup, Node, with_word, with_grant, with_strand, with_issued, with_result, without_results, with_turn, with_piece, bore_at, posted_to, ended_for, applied_here, sent_away}

-- What an event sends to each nodelet. What goes to the nodelet itself does not leave it.
abbrev pub Sends : Type 0
Sends = ℕ → List Body

abbrev pub nothing : Sends
nothing k = []

abbrev pub only_to : ℕ → Body → Sends
only_to to body k = if k == to then body ∷ [] else []

abbrev pub to_all : ℕ → Body → Sends
to_all n body k = if nat_lt k n then body ∷ [] else []

-- What an action leaves: the nodelet, the answer, what is sent, and the child's name, if one is born.
pub record Effect : Type 0 where
  pub node : Node
  pub answer : List ℤ
  pub sends : Sends
  pub child : Option Name

-- Nothing is sent, and nobody is born.
abbrev pub quiet : Node → List ℤ → Effect
quiet v answer = record { node = v; answer = answer; sends = nothing; child = None }

-- Something is sent, and the answer is empty.
abbrev pub sending : Node → Sends → Effect
sending v sends = record { node = v; answer = []; sends = sends; child = None }

-- ---- memory

-- A load answers the word.
abbrev pub loaded : Node → ℤ → Effect
loaded v a = quiet v (v.cells a ∷ [])

-- A fetch answers the old word and leaves the new one.
abbrev pub exchanged : Node → ℤ → (ℤ → ℤ) → Effect
exchanged v a new = quiet (with_word v a (new (v.cells a))) (v.cells a ∷ [])

-- An operation is applied.
abbrev pub operated : Node → Op → ℤ → ℤ → Node
operated v op a word = applied_here (with_word v a (applied op (v.cells a) word))

-- An operation is applied where this nodelet owns the word, and else sent to the owner.
abbrev pub issued : ℕ → Node → Name → Pos → Op → ℤ → ℤ → ℕ → Effect
issued here v name at op a word owner =
    if owner == here
    then quiet (posted_to owner (operated v op a word)) []
    else sending (posted_to owner (with_issued v name 1)) (only_to owner (Issued name (Operation op a word at)))

-- Something is counted for each of some numbers.
abbrev pub for_each : List ℕ → (ℕ → Node → Node) → Node → Node
for_each [] count v = v
for_each (k ∷ ks) count v = for_each ks count (count k v)

-- An Init stores the copy here, and sends a store to each other nodelet.
abbrev pub initialized : ℕ → Node → Name → Pos → ℤ → ℤ → Effect
initialized n v name at a word =
    sending (for_each (below n) posted_to (with_issued (operated v Store a word) name (n - 1))) (to_all n (Issued name (Operation Store a word at)))

-- ---- allocation

-- The words are granted here, if any are.
abbrev pub with_fresh : Node → Option Extent → Node
with_fresh v None = v
with_fresh v (Some extent) = with_grant v extent

-- The grant is sent to each other nodelet, but for local words.
abbrev pub announced : ℕ → Node → Name → Request → Option Extent → ℤ → Effect
announced n v name request None address = quiet v (address ∷ [])
announced n v name (Local _ _ _) (Some extent) address = quiet v (address ∷ [])
announced n v name request (Some extent) address =
    record (sending (with_issued v name (n - 1)) (to_all n (Issued name (Grant extent)))) { answer = address ∷ [] }

-- A request that takes nothing answers 0, and any other what its view's cursor gives.
abbrev pub allocated : Setup → Node → Name → Request → Option (ℕ × ℤ) → Effect
allocated m v name request None = quiet v (pos 0 ∷ [])
allocated m v name request (Some (view, count)) =
    let address = allocated_at v.cursors view count in
    let fresh = grant_of m.rules address count in
    let moved : Node = record v { cursors = cursors_after m.nodelets v.cursors view count } in
    announced m.nodelets (with_fresh moved fresh) name request fresh address

-- ---- parents and children

-- The next child has the nodelet's next number.
abbrev pub next_name : ℕ → Node → Name
next_name here v = record { nodelet = here; number = v.next_number }

-- A child at its birth at nodelet k, of the activation at depth d of a strand.
abbrev pub child_of : Setup → ℕ → Node → Context → State → ℕ → ℕ → List ℤ → ℕ → Context
child_of m here v x state d function args k = record {
  name = next_name here v;
  home = k;
  place = k;
  ticket = Some (record { parent = x.name; home = x.home; depth = d; order = owed d state });
  state = started function (slice_get m.code.functions function) args;
  late = None;
}

-- A birth by a hint is counted.
abbrev pub counted_birth : Option Hint → ℕ → Node → Node
counted_birth None k v = v
counted_birth (Some hint) k v = bore_at k v

-- A child stands here where it is born here, and else is sent to where it is.
abbrev pub born : ℕ → Node → Context → Effect
born here v child =
    if child.home == here
    then record (quiet (with_strand v child) []) { child = Some child.name }
    else record (sending (sent_away v) (only_to child.home (Arrival child))) { child = Some child.name }

-- A child is born at the owner of the hint, or here.
abbrev pub spawned : Setup → ℕ → Node → Context → State → ℕ → ℕ → List ℤ → Option Hint → Effect
spawned m here v x state d function args hint =
    let k = birthplace m.nodelets here hint in
    born here (counted_birth hint k (record v { next_number = suc v.next_number })) (child_of m here v x state d function args k)

-- A Sync answers the results of the activation's children in spawn order.
abbrev pub joined : Node → Context → State → ℕ → Effect
joined v x state d =
    let count = owed d state in
    quiet (without_results v x.name d count) (map (λ order. unwrap_or (v.results x.name d order) (pos 0)) (below count))

-- A strand that ends has its result kept here where its parent's home is here, and else sent there. Main's is kept
-- where it ends.
abbrev pub ended : ℕ → Node → Option Ticket → ℤ → Effect
ended here v None value = quiet (record v { main_value = Some value }) []
ended here v (Some t) value =
    if t.home == here then quiet (ended_for t.home (with_result v t value)) []
    else sending (ended_for t.home v) (only_to t.home (Returned t value))

-- ---- all actions

-- An action on words.
abbrev pub memory_effect : Setup → ℕ → Node → Context → Action → Effect
memory_effect m here v x (Load at a) = loaded v a
memory_effect m here v x (Fetch at f a) = exchanged v a (fetched f)
memory_effect m here v x (Issue at op a word) = issued here v x.name at op a word (owner_of a here m.nodelets)
memory_effect m here v x (Init at a word) = initialized m.nodelets v x.name at a word
memory_effect m here v x (Alloc request) = allocated m v x.name request (taken_from m.nodelets here request)
memory_effect m here v x _ = quiet v []

-- Any action that has its effect here, done by a strand that stands in a state before it. A Trap leaves the nodelet
-- as it is.
abbrev pub effect : Setup → ℕ → Node → Context → State → Action → Effect
effect m here v x state Turn = quiet (with_turn v) []
effect m here v x state Where = quiet v (pos here ∷ [])
effect m here v x state (Print bytes) = quiet (with_piece v bytes) []
effect m here v x state (Spawn d function args hint) = spawned m here v x state d function args hint
effect m here v x state (Sync d) = joined v x state d
effect m here v x state (End value) = ended here v x.ticket value
effect m here v x state action = memory_effect m here v x action
