-- Every event keeps the contexts of each nodelet in ascending order.
use Rattle.std.proofs.Common.{◌≡◌, ℕ, suc, List, [], ◌∷◌, Option, Some, None, refl, sym, subst, Bool, true, false, ℤ, option_map, ◌-◌}
use Rattle.std.specs.Prelude.{if◌then◌else◌, ◌==◌}
use Rattle.word_ops.specs.declared.name.Name.{Name}
use Rattle.word_ops.specs.declared.ticket.Ticket.{Ticket}
use Rattle.word_ops.specs.Report.{below}
use Rattle.mem_atomics.specs.declared.op.Op.TheVariants.{Store}
use Rattle.data_layout.specs.Address.{owner_of}
use Rattle.data_layout.specs.Cursor.{allocated_at, cursors_after}
use Rattle.merge_law.specs.declared.event.Event.{Event}
use Rattle.merge_law.specs.declared.event.Event.TheVariants.{Run, Take}
use Rattle.merge_law.specs.Machine.{Raw}
use Rattle.merge_law.specs.Core.{After, Played, after, told_first, play}
use Rattle.merge_law.proofs.Somes.{from_map, from_then, some_is}
use Rattle.world_model.specs.Action.{Action, Turn, Load, Issue, Fetch, Init, Fence, Move, Where, Print, Alloc, Spawn, Sync, End, Trap, Request, Striped, Blocked, Local, Replicated, Hint}
use Rattle.world_model.specs.Allocation.{taken_from}
use Rattle.world_model.specs.Effect.{birthplace, grant_of}
use Rattle.world_model.specs.World.{Operation, Grant, Extent}
use Rattle.threadlet_code.specs.Machine.{State}
use Rattle.core_model.specs.Contexts.{Context, Body, Arrival, Issued, Ack, Returned, context_of, without_context}
use Rattle.core_model.specs.Nodes.{Setup, Node, is_granted, with_acknowledged, applied_here, with_issued, moved_from, posted_to}
use Rattle.core_model.specs.Effects.{Effect, effect, for_each, announced, with_fresh, allocated, counted_birth, born, child_of, ended, operated}
use Rattle.core_model.specs.Runs.{last_done, run}
use Rattle.core_model.specs.Takes.{take, made_late}
use Rattle.core_model.specs.Start.{main_context}
use Rattle.core_model.specs.Machine.{Packet, stamped_node, machine_of}
use Rattle.core_model.specs.Core.{Core, start_core}
use Rattle.core_model.specs.Laws.{IsPlayed}
use Rattle.core_model.proofs.Actions.WordActions.{moved-part}
use Rattle.core_model.proofs.Events.LegalEvent.{run_stamp, take_stamp, taken, Happened, happened}
use Rattle.core_model.proofs.Actions.RunOutcomes.{halted, silent_of, ran_by}
use Rattle.core_model.proofs.Census.ContextOrder.{Ascending, ascending-with, ascending-without}

abbrev IsInOrder : Node → Type 0
IsInOrder v = Ascending v.contexts

-- ---- what an action leaves

counted-contexts : (ks : List ℕ) (v : Node) → (for_each ks posted_to v).contexts ≡ v.contexts
counted-contexts [] v = refl
counted-contexts (k ∷ ks) v = counted-contexts ks (posted_to k v)

in_order-fresh : (v : Node) (fresh : Option Extent) → IsInOrder v → IsInOrder (with_fresh v fresh)
in_order-fresh v None a = a
in_order-fresh v (Some extent) a = a

in_order-announced : (n : ℕ) (v : Node) (name : Name) (request : Request) (fresh : Option Extent) (address : ℤ) → IsInOrder v → IsInOrder (announced n v name request fresh address).node
in_order-announced n v name request None address a = a
in_order-announced n v name (Local at count near) (Some extent) address a = a
in_order-announced n v name (Striped count) (Some extent) address a = a
in_order-announced n v name (Blocked blocks count) (Some extent) address a = a
in_order-announced n v name (Replicated count) (Some extent) address a = a

in_order-allocated : (u : Setup) (v : Node) (name : Name) (request : Request) (taken : Option (ℕ × ℤ)) → IsInOrder v → IsInOrder (allocated u v name request taken).node
in_order-allocated u v name request None a = a
in_order-allocated u v name request (Some (view, count)) a =
    let address = allocated_at v.cursors view count in
    let fresh = grant_of u.rules address count in
    let later : Node = record v { cursors = cursors_after u.nodelets v.cursors view count } in
    in_order-announced u.nodelets (with_fresh later fresh) name request fresh address (in_order-fresh later fresh a)

in_order-birth : (hint : Option Hint) (k : ℕ) (v : Node) → IsInOrder v → IsInOrder (counted_birth hint k v)
in_order-birth None k v a = a
in_order-birth (Some hint) k v a = a

in_order-either : (t : Bool) (e f : Effect) → IsInOrder e.node → IsInOrder f.node → IsInOrder (if t then e else f).node
in_order-either true e f a b = a
in_order-either false e f a b = b

in_order-born : (here : ℕ) (v : Node) (child : Context) → IsInOrder v → IsInOrder (born here v child).node
in_order-born here v child a = in_order-either (child.home == here) _ _ (ascending-with child v.contexts a) a

in_order-ended : (here : ℕ) (v : Node) (ticket : Option Ticket) (value : ℤ) → IsInOrder v → IsInOrder (ended here v ticket value).node
in_order-ended here v None value a = a
in_order-ended here v (Some t) value a = in_order-either (t.home == here) _ _ a a

in_order-effect : (u : Setup) (here : ℕ) (v : Node) (x : Context) (state : State) (action : Action) → IsInOrder v → IsInOrder (effect u here v x state action).node
in_order-effect u here v x state Turn a = a
in_order-effect u here v x state Where a = a
in_order-effect u here v x state (Print bytes) a = a
in_order-effect u here v x state (Spawn d function args hint) a =
    let k = birthplace u.nodelets here hint in
    let later : Node = record v { next_number = suc v.next_number } in
    in_order-born here (counted_birth hint k later) (child_of u here v x state d function args k) (in_order-birth hint k later a)
in_order-effect u here v x state (Sync d) a = a
in_order-effect u here v x state (End value) a = in_order-ended here v x.ticket value a
in_order-effect u here v x state (Load at address) a = a
in_order-effect u here v x state (Fetch at f address) a = a
in_order-effect u here v x state (Issue at op address word) a = in_order-either (owner_of address here u.nodelets == here) _ _ a a
in_order-effect u here v x state (Init at address word) a = subst (λ (l : List Context). Ascending l) (sym (counted-contexts (below u.nodelets) (with_issued (operated v Store address word) x.name (u.nodelets - 1)))) a
in_order-effect u here v x state (Alloc request) a = in_order-allocated u v x.name request (taken_from u.nodelets here request) a
in_order-effect u here v x state Fence a = a
in_order-effect u here v x state (Move at address) a = a
in_order-effect u here v x state (Trap at kind) a = a

-- ---- what a run leaves

module _ (u : Setup) (k : ℕ) (v : Node) (ordered : IsInOrder v) where
  moved : (from : ℕ) (after : Node) → IsInOrder after → IsInOrder (moved_from k from after)
  moved from after a = subst (λ (l : List Context). Ascending l) (sym (moved-part (λ (y : Node). y.contexts) k from after (λ t. refl))) a

  last_in_order : (x : Context) (state : State) (count : ℕ) (action : Action) → IsInOrder (last_done u k v x state count action).node
  last_in_order x state count action = by action
    where
      gone : (other : Action) → Ascending (without_context x.name (effect u k v x state other).node.contexts)
      gone other = ascending-without x.name _ (in_order-effect u k v x state other ordered)

      by : (other : Action) → IsInOrder (last_done u k v x state count other).node
      by (Trap at kind) = ascending-without x.name v.contexts ordered
      by Turn = gone Turn
      by Where = gone Where
      by Fence = gone Fence
      by (Print bytes) = gone (Print bytes)
      by (Spawn d function args hint) = gone (Spawn d function args hint)
      by (Sync d) = gone (Sync d)
      by (End value) = gone (End value)
      by (Load at address) = gone (Load at address)
      by (Fetch at f address) = gone (Fetch at f address)
      by (Issue at op address word) = gone (Issue at op address word)
      by (Init at address word) = gone (Init at address word)
      by (Alloc request) = gone (Alloc request)
      by (Move at address) = gone (Move at address)

  run_in_order : (name : Name) (raw : Raw Node Body) → run u k v name ≡ Some raw → IsInOrder raw.node
  run_in_order name raw e = ran_by u k v name (λ (r : Raw Node Body). IsInOrder r.node) (record {
    refused = λ x action here kind at way. ascending-without x.name v.contexts ordered;
    sent = λ x action here to way. ascending-without x.name v.contexts ordered;
    stays = λ x action here way less is. ascending-with (record x { state = halted u x }) v.contexts ordered;
    outside_of = λ x action here way at is. ascending-without x.name _ (moved x.place v ordered);
    asked = λ x action here way granted resume is sorted. ascending-with _ _ (moved x.place (effect u k v x (halted u x) action).node (in_order-effect u k v x (halted u x) action ordered));
    last = λ x action here way granted is sorted. last_in_order x (halted u x) (suc (silent_of u x)) action;
  }) raw e

  -- ---- what a take leaves

  take_in_order : (origin : ℕ) (body : Body) → IsInOrder (take u k v origin body).node
  take_in_order origin (Arrival x) = ascending-with x v.contexts ordered
  take_in_order origin (Issued name (Grant extent)) = ordered
  take_in_order origin (Issued name (Operation op address word at)) = elim (is_granted u.rules v address) as (λ t. IsInOrder (if t then operated v op address word else applied_here v)) [ true ↦ ordered | false ↦ ordered ]
  take_in_order origin (Ack name None) = ordered
  take_in_order origin (Ack name (Some at)) = late (context_of name v.contexts)
    where
      late : (o : Option Context) → IsInOrder (made_late (with_acknowledged v name) at o)
      late None = ordered
      late (Some x) = ascending-with _ v.contexts ordered
  take_in_order origin (Returned t value) = ordered

-- ---- events

abbrev pub AreInOrder : Core → Type 0
AreInOrder c = (k : ℕ) → Ascending (c.nodes k).contexts

module _ (u : Setup) where
  -- one nodelet is another
  one_in_order : (c : Core) → AreInOrder c → (v : Node) → IsInOrder v → (j : ℕ) (t : Bool) → IsInOrder (if t then v else c.nodes j)
  one_in_order c ordered v here j true = here
  one_in_order c ordered v here j false = ordered j

  event_in_order : (c : Core) → AreInOrder c → (event : Event) (a : After Node Packet) → after (machine_of u) c event ≡ Some a → AreInOrder a.core
  event_in_order c ordered event a e = by event (happened u c event a e)
    where
      by : (other : Event) → Happened u c other a → AreInOrder a.core
      by (Run k q) h = subst (λ (y : After Node Packet). AreInOrder y.core) h.is
          (λ j. one_in_order c ordered (stamped_node (run_stamp c k) h.raw.node) (run_in_order u k (c.nodes k) (ordered k) q h.raw h.made) j (j == k))
      by (Take from k) h = subst (λ (y : After Node Packet). AreInOrder y.core) h.is
          (λ j. one_in_order c ordered (stamped_node (take_stamp c k h.packet) (taken u c from k h.packet).node) (take_in_order u k (c.nodes k) (ordered k) from h.packet.body) j (j == k))

  play_in_order : (events : List Event) (c : Core) (played : Played Node Packet) → AreInOrder c → play (machine_of u) events c ≡ Some played → AreInOrder played.core
  play_in_order [] c played ordered e = subst (λ (y : Played Node Packet). AreInOrder y.core) (some_is _ _ e) ordered
  play_in_order (event ∷ events) c played ordered e =
      let first = from_then (λ (a : After Node Packet). option_map (told_first a.entry) (play (machine_of u) events a.core)) (after (machine_of u) c event) played e in
      let rest = from_map (told_first first.value.entry) (play (machine_of u) events first.value.core) played first.next in
      subst (λ (y : Played Node Packet). AreInOrder y.core) rest.is
      (play_in_order events first.value.core rest.value (event_in_order c ordered event first.value first.was) rest.was)

  -- legal events leave each nodelet's contexts in order
  pub contexts_in_order : (events : List Event) (played : Played Node Packet) → IsPlayed u events played → AreInOrder played.core
  contexts_in_order events played legal = play_in_order events (start_core u) played begins legal
    where
      begins : AreInOrder (start_core u)
      begins k = elim (k == 0) as (λ t. Ascending (if t then main_context u ∷ [] else [])) [ true ↦ (tt, tt) | false ↦ tt ]
