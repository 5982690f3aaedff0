-- Each action but a Turn leaves little besides its strand.
use Rattle.std.proofs.Common.{◌≡◌, ℕ, suc, ◌+◌, ◌*◌, ◌≤◌, List, [], ◌∷◌, Option, Some, None, refl, ap, ◌∙◌, arith, Bool, true, false, ℤ, pos}
use Rattle.std.specs.Prelude.{sum_by, if◌then◌else◌, ◌==◌, slice_get, ◌-◌}
use Rattle.std.proofs.Math.Nat.{mul-zero}
use Rattle.word_ops.specs.declared.place.Pos.{Pos}
use Rattle.word_ops.specs.declared.name.Name.{Name}
use Rattle.word_ops.specs.declared.ticket.Ticket.{Ticket}
use Rattle.word_ops.specs.Report.{below}
use Rattle.mem_atomics.specs.declared.op.Op.{Op}
use Rattle.mem_atomics.specs.declared.op.Op.TheVariants.{Store}
use Rattle.data_layout.specs.Address.{owner_of}
use Rattle.data_layout.specs.Cursor.{allocated_at, cursors_after}
use Rattle.world_model.specs.Action.{Action, Turn, Load, Issue, Fetch, Init, Fence, Move, Where, Print, Alloc, Spawn, Sync, End, Trap, Request, Striped, Blocked, Local, Replicated, Hint}
use Rattle.world_model.specs.Allocation.{taken_from}
use Rattle.world_model.specs.World.{Extent, Operation, Grant}
use Rattle.world_model.specs.Effect.{grant_of, birthplace}
use Rattle.threadlet_code.specs.Breaches.{is_sound}
use Rattle.threadlet_code.specs.Machine.{State}
use Rattle.threadlet_code.specs.Running.{started}
use Rattle.core_model.specs.Contexts.{Context, Body, Arrival, Issued, Returned, with_context, context_of}
use Rattle.core_model.specs.Nodes as node
use Rattle.core_model.specs.Nodes.{Setup, Node, with_strand, sent_away}
use Rattle.core_model.specs.Effects.{Effect, nothing, only_to, to_all, quiet, sending, operated, issued, with_fresh, announced, allocated, child_of, counted_birth, born, spawned, ended, effect}
use Rattle.core_model.specs.Rank.{left_in, weight, context_rank, body_rank}
use Rattle.core_model.proofs.Events.Issue.{counted-part}
use Rattle.core_model.proofs.Actions.LastActions.{IsAsked}
use Rattle.core_model.proofs.Census.ContextOrder.{Ascending}
use Rattle.core_model.proofs.Rank.Sums.{sum-both}
use Rattle.core_model.proofs.Rank.Balance.{carried, carried-nothing, carried-only, carried-all}
use Rattle.core_model.proofs.Rank.Departures.{rank_most}
use Rattle.core_model.proofs.Rank.InstructionsLeft.{begun_left}
use Rattle.core_model.proofs.Rank.NodeletSums.{IsLight, light, by_name}

-- a strand at its birth counts next to nothing
child_rank : (u : Setup) → is_sound u.code ≡ true → (j : ℕ) (child : Context) (g : ℕ) (args : List ℤ) → child.state ≡ started g (slice_get u.code.functions g) args → context_rank u j child ≤ 2
child_rank u sound j child g args is =
    let most : context_rank u j child ≤ weight u * left_in u.code child.state + 2 = rank_most u j child in
    let none : weight u * left_in u.code child.state ≡ 0 = ap (λ (s : State). weight u * left_in u.code s) is ∙ ap (λ l. weight u * l) (begun_left u.code sound g args) ∙ mul-zero (weight u) in
    omega arith

module _ (u : Setup) (sound : is_sound u.code ≡ true) (k : ℕ) (v : Node) (q : Name) (x : Context) (found : context_of q v.contexts ≡ Some x) (up : Ascending v.contexts) where
  abbrev Light : Effect → Type 0
  Light e = IsLight u k v q x found up e

  few_nothing : carried u nothing ≤ 2 * u.nodelets + 5
  few_nothing = let z = carried-nothing u in omega arith

  -- nothing is sent
  quietly : (v' : Node) (answer : List ℤ) → v'.contexts ≡ v.contexts → v'.served ≡ v.served → Light (quiet v' answer)
  quietly v' answer contexts served = light u k v q x found up (quiet v' answer) contexts served few_nothing

  few_only : (to : ℕ) (body : Body) → body_rank u to body ≤ 3 → carried u (only_to to body) ≤ 2 * u.nodelets + 5
  few_only to body le = let z = carried-only u to body in omega arith

  few_all : (body : Body) → ((j : ℕ) → body_rank u j body ≡ 2) → carried u (to_all u.nodelets body) ≤ 2 * u.nodelets + 5
  few_all body same = let z = carried-all u 2 body same in omega arith

  -- ---- words

  issue_light : (at : Pos) (op : Op) (a word : ℤ) (owner : ℕ) → Light (issued k v x.name at op a word owner)
  issue_light at op a word owner = go (owner == k)
    where
      go : (t : Bool) → Light (if t then quiet (node.posted_to owner (operated v op a word)) [] else sending (node.posted_to owner (node.with_issued v x.name 1)) (only_to owner (Issued x.name (Operation op a word at))))
      go true = quietly (node.posted_to owner (operated v op a word)) [] refl refl
      go false = light u k v q x found up (sending (node.posted_to owner (node.with_issued v x.name 1)) (only_to owner (Issued x.name (Operation op a word at)))) refl refl
          (few_only owner (Issued x.name (Operation op a word at)) (omega arith))

  init_light : (state : State) (at : Pos) (a word : ℤ) → Light (effect u k v x state (Init at a word))
  init_light state at a word =
      light u k v q x found up (effect u k v x state (Init at a word))
      (counted-part (λ (y : Node). y.contexts) (λ j y. refl) (below u.nodelets) stored)
      (counted-part (λ (y : Node). y.served) (λ j y. refl) (below u.nodelets) stored)
      (few_all (Issued x.name (Operation Store a word at)) (λ j. refl))
    where
      stored : Node
      stored = node.with_issued (operated v Store a word) x.name (u.nodelets - 1)

  fresh_contexts : (v' : Node) (o : Option Extent) → ((with_fresh v' o).contexts ≡ v'.contexts) × ((with_fresh v' o).served ≡ v'.served)
  fresh_contexts v' None = (refl, refl)
  fresh_contexts v' (Some extent) = (refl, refl)

  announced_light : (v' : Node) (request : Request) (fresh : Option Extent) (address : ℤ) → v'.contexts ≡ v.contexts → v'.served ≡ v.served → Light (announced u.nodelets v' x.name request fresh address)
  announced_light v' request None address e f = quietly v' (address ∷ []) e f
  announced_light v' (Local at words place) (Some extent) address e f = quietly v' (address ∷ []) e f
  announced_light v' (Striped words) (Some extent) address e f = light u k v q x found up (announced u.nodelets v' x.name (Striped words) (Some extent) address) e f (few_all (Issued x.name (Grant extent)) (λ j. refl))
  announced_light v' (Blocked blocks words) (Some extent) address e f = light u k v q x found up (announced u.nodelets v' x.name (Blocked blocks words) (Some extent) address) e f (few_all (Issued x.name (Grant extent)) (λ j. refl))
  announced_light v' (Replicated words) (Some extent) address e f = light u k v q x found up (announced u.nodelets v' x.name (Replicated words) (Some extent) address) e f (few_all (Issued x.name (Grant extent)) (λ j. refl))

  alloc_light : (request : Request) (taken : Option (ℕ × ℤ)) → Light (allocated u v x.name request taken)
  alloc_light request None = quietly v (pos 0 ∷ []) refl refl
  alloc_light request (Some p) =
      announced_light (with_fresh moved fresh) request fresh (allocated_at v.cursors p.0 p.1) (fresh_contexts moved fresh).0 (fresh_contexts moved fresh).1
    where
      fresh : Option Extent
      fresh = grant_of u.rules (allocated_at v.cursors p.0 p.1) p.1

      moved : Node
      moved = record v { cursors = cursors_after u.nodelets v.cursors p.0 p.1 }

  -- ---- children

  born_light : (v' : Node) (child : Context) (g : ℕ) (args : List ℤ) → child.state ≡ started g (slice_get u.code.functions g) args → v'.contexts ≡ v.contexts → v'.served ≡ v.served → Light (born k v' child)
  born_light v' child g args begins contexts served = go (child.home == k)
    where
      rank_of : (j : ℕ) → context_rank u j child ≤ 2
      rank_of j = child_rank u sound j child g args begins

      go : (t : Bool) → Light (if t then record (quiet (with_strand v' child) []) { child = Some child.name } else record (sending (sent_away v') (only_to child.home (Arrival child))) { child = Some child.name })
      go false = light u k v q x found up (record (sending (sent_away v') (only_to child.home (Arrival child))) { child = Some child.name }) contexts served
          (few_only child.home (Arrival child) (let z = rank_of child.home in omega arith))
      go true = record {
        served = served;
        counts = λ x' same.
            let both : sum_by (context_rank u k) (with_context x' (with_context child v.contexts)) + context_rank u k x ≤ context_rank u k x' + context_rank u k child + sum_by (context_rank u k) v.contexts =
            sum-both (context_rank u k) x' child v.contexts x up (ap (λ n. context_of n v.contexts) same ∙ by_name u k v q x found up) in
            let is : sum_by (context_rank u k) (with_context x' (with_context child v'.contexts)) ≡ sum_by (context_rank u k) (with_context x' (with_context child v.contexts)) =
            ap (λ l. sum_by (context_rank u k) (with_context x' (with_context child l))) contexts in
            let little = rank_of k in
            let none : carried u nothing ≡ 0 = carried-nothing u in
            ends (sum_by (context_rank u k) (with_context x' (with_context child v'.contexts))) (sum_by (context_rank u k) (with_context x' (with_context child v.contexts))) (carried u nothing)
            (context_rank u k x) (context_rank u k x') (context_rank u k child) (sum_by (context_rank u k) v.contexts) u.nodelets is both little none;
      }
        where
          ends : (s s' c r r' z t n : ℕ) → s ≡ s' → s' + r ≤ r' + z + t → z ≤ 2 → c ≡ 0 → s + c + r ≤ r' + t + (2 * n + 5)
          ends s s' c r r' z t n e1 e2 e3 e4 = omega arith

  spawn_light : (state : State) (d g : ℕ) (args : List ℤ) (hint : Option Hint) → Light (spawned u k v x state d g args hint)
  spawn_light state d g args hint =
      born_light (counted_birth hint b (record v { next_number = suc v.next_number })) (child_of u k v x state d g args b) g args refl (counted hint).0 (counted hint).1
    where
      b : ℕ
      b = birthplace u.nodelets k hint

      counted : (o : Option Hint) → ((counted_birth o b (record v { next_number = suc v.next_number })).contexts ≡ v.contexts) × ((counted_birth o b (record v { next_number = suc v.next_number })).served ≡ v.served)
      counted None = (refl, refl)
      counted (Some h) = (refl, refl)

  -- ---- all that are asked for

  pub asked_light : (state : State) (action : Action) → IsAsked action → (action ≡ Turn → ⊥) → Light (effect u k v x state action)
  asked_light state Turn asked other = absurd (other refl)
  asked_light state (Load at a) asked other = quietly v (v.cells a ∷ []) refl refl
  asked_light state (Issue at op a word) asked other = issue_light at op a word (owner_of a k u.nodelets)
  asked_light state (Fetch at f a) asked other = light u k v q x found up (effect u k v x state (Fetch at f a)) refl refl few_nothing
  asked_light state (Init at a word) asked other = init_light state at a word
  asked_light state Fence asked other = quietly v [] refl refl
  asked_light state (Move at a) asked other = quietly v [] refl refl
  asked_light state Where asked other = quietly v (pos k ∷ []) refl refl
  asked_light state (Print bytes) asked other = quietly (node.with_piece v bytes) [] refl refl
  asked_light state (Alloc request) asked other = alloc_light request (taken_from u.nodelets k request)
  asked_light state (Spawn d g args hint) asked other = spawn_light state d g args hint
  asked_light state (Sync d) asked other = light u k v q x found up (effect u k v x state (Sync d)) refl refl few_nothing
  asked_light state (End value) asked other = absurd asked
  asked_light state (Trap at kind) asked other = absurd asked

  -- an end sends at most one result
  pub end_light : (ticket : Option Ticket) (value : ℤ) → ((ended k v ticket value).node.contexts ≡ v.contexts) × ((ended k v ticket value).node.served ≡ v.served) × (carried u (ended k v ticket value).sends ≤ 1)
  end_light None value = (refl, refl, let z : carried u nothing ≡ 0 = carried-nothing u in omega arith)
  end_light (Some t) value = go (t.home == k)
    where
      by : Bool → Effect
      by b = if b then quiet (node.ended_for t.home (node.with_result v t value)) [] else sending (node.ended_for t.home v) (only_to t.home (Returned t value))

      go : (b : Bool) → ((by b).node.contexts ≡ v.contexts) × ((by b).node.served ≡ v.served) × (carried u (by b).sends ≤ 1)
      go true = (refl, refl, let z : carried u nothing ≡ 0 = carried-nothing u in omega arith)
      go false = (refl, refl, carried-only u t.home (Returned t value))
