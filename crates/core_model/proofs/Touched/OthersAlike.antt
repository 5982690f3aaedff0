-- Events leave all strands as they were that they do not touch.
use Rattle.std.proofs.Common.{◌≡◌, ◌≢◌, ℕ, List, [], ◌++◌, Option, Some, None, refl, sym, ap, ◌∙◌, subst, Bool, true, false, not, ◌&&◌, ◌||◌, nat_lt, option_and_then, Contains}
use Rattle.std.specs.Prelude.{if◌then◌else◌, ◌==◌, drop}
use Rattle.std.proofs.lemmas.Bool.{eqb-true}
use Rattle.std.proofs.lemmas.List.{append-nil}
use Rattle.word_ops.specs.declared.name.Name.{Name}
use Rattle.word_ops.specs.declared.ticket.Ticket.{Ticket}
use Rattle.word_ops.specs.declared.step.NodeEvent.TheVariants as node
use Rattle.merge_law.specs.declared.event.Event.{Event}
use Rattle.merge_law.specs.declared.event.Event.TheVariants.{Run, Take}
use Rattle.merge_law.specs.Events.{nodelet_of}
use Rattle.merge_law.specs.Machine.{stamped}
use Rattle.merge_law.specs.Core.{After, Advance, leaving, but_from, after, core_after}
use Rattle.merge_law.proofs.Somes.{same_number, swapped}
use Rattle.world_model.specs.Action.{Action, Turn, Load, Issue, Fetch, Init, Fence, Move, Where, Print, Alloc, Spawn, Sync, End, Trap}
use Rattle.world_model.specs.Run.{start}
use Rattle.core_model.specs.Contexts.{Context, context_of}
use Rattle.core_model.specs.Nodes.{Setup, Node}
use Rattle.core_model.specs.Runs.{has_no_result, is_free}
use Rattle.core_model.specs.Machine.{Packet, machine_of, stamped_node}
use Rattle.core_model.specs.Core.{Core, start_core, setting_of}
use Rattle.core_model.specs.Touched.{touched_by_first, IsOther, OthersGoOnAlike, OthersGoOnUnlessHeld, OthersStand, untaken, ElsewhereIsSame, EventsAreLocal}
use Rattle.core_model.proofs.Invariant.Start.{starts}
use Rattle.core_model.proofs.Invariant.OtherStrands.{Kept}
use Rattle.core_model.proofs.Invariant.FreeEnds.{live_free}
use Rattle.core_model.proofs.Events.LegalEvent.{HasRun, HasTaken, run_stamp, take_stamp, taken, happened}
use Rattle.core_model.proofs.Events.Play.{KeptBy, play_kept, event_kept}
use Rattle.core_model.proofs.Touched.RunsAlike.{Alike, runs_alike}
use Rattle.core_model.proofs.Touched.Untouched.{run_alike, take_alike}

-- ---- at the event's nodelet

-- the stamp aside
stamped_alike : (q : Name) (stamp : ℕ) (v w : Node) → Alike q v w → Alike q (stamped_node stamp v) w
stamped_alike q stamp v w a = record { context = a.context; under_way = a.under_way; results = a.results }

-- the node that an event leaves at its nodelet
there : (c : Core) (k : ℕ) (y : Node) (q : Name) → Alike q y (c.nodes k) → Alike q (if k == k then y else c.nodes k) (c.nodes k)
there c k y q a = subst (λ (b : Bool). Alike q (if b then y else c.nodes k) (c.nodes k)) (sym (same_number k)) a

pub others_alike : (u : Setup) (c : Core) (event : Event) (left : After Node Packet) → after (machine_of u) c event ≡ Some left →
    (q : Name) → IsOther c event q → Alike q (left.core.nodes (nodelet_of event)) (c.nodes (nodelet_of event))
others_alike u c (Run k p) left e q other =
    let h : HasRun u c k p left = happened u c (Run k p) left e in
    subst (λ (y : After Node Packet). Alike q (y.core.nodes k) (c.nodes k)) h.is
    (there c k (stamped_node (run_stamp c k) h.raw.node) q
    (stamped_alike q (run_stamp c k) h.raw.node (c.nodes k) (run_alike u k (c.nodes k) p q other h.raw h.made)))
others_alike u c (Take origin k) left e q other =
    let h : HasTaken u c origin k left = happened u c (Take origin k) left e in
    let raw = taken u c origin k h.packet in
    subst (λ (y : After Node Packet). Alike q (y.core.nodes k) (c.nodes k)) h.is
    (there c k (stamped_node (take_stamp c k h.packet) raw.node) q
    (stamped_alike q (take_stamp c k h.packet) raw.node (c.nodes k)
    (take_alike u k (c.nodes k) origin q h.packet.body (subst (λ (l : List Packet). Contains (touched_by_first l) q → ⊥) h.first other))))

pub others_stand : OthersStand
others_stand u c event left e q other = (others_alike u c event left e q other).context

pub others_go_on_alike : OthersGoOnAlike
others_go_on_alike u sound some events played legal event left e turns q other =
    runs_alike u k q (left.core.nodes k) (played.core.nodes k) same turns (λ x found action.
    live_free u left.core later.world later.holds q k x (same.context ∙ found) action ∙ sym (live_free u played.core before.world before.holds q k x found action))
  where
    k : ℕ
    k = nodelet_of event

    same : Alike q (left.core.nodes (nodelet_of event)) (played.core.nodes (nodelet_of event))
    same = others_alike u played.core event left e q other

    before : KeptBy u sound some (start (setting_of u)) played
    before = play_kept u sound some events (start_core u) (start (setting_of u)) played (starts u sound some) legal

    later : Kept u before.world left.core left.entry.entry.step
    later = event_kept u sound some played.core before.world before.holds event left e

-- an End is held up alike where the result is there or not alike
free_same : (k : ℕ) (v w : Node) (ticket : Option Ticket) → has_no_result v ticket ≡ has_no_result w ticket → (action : Action) → is_free k v ticket action ≡ is_free k w ticket action
free_same k v w None e action = refl
free_same k v w (Some t) e (End value) = ap (λ r. not (t.home == k) || r) e
free_same k v w (Some t) e Turn = refl
free_same k v w (Some t) e (Load at a) = refl
free_same k v w (Some t) e (Issue at op a word) = refl
free_same k v w (Some t) e (Fetch at f a) = refl
free_same k v w (Some t) e (Init at a word) = refl
free_same k v w (Some t) e Fence = refl
free_same k v w (Some t) e (Move at a) = refl
free_same k v w (Some t) e Where = refl
free_same k v w (Some t) e (Print bytes) = refl
free_same k v w (Some t) e (Alloc request) = refl
free_same k v w (Some t) e (Spawn d f args hint) = refl
free_same k v w (Some t) e (Sync d) = refl
free_same k v w (Some t) e (Trap at kind) = refl

pub others_go_on_unless_held : OthersGoOnUnlessHeld
others_go_on_unless_held u c event left e turns q other held =
    runs_alike u k q (left.core.nodes k) (c.nodes k) same turns (λ x found action. free_same k (left.core.nodes k) (c.nodes k) x.ticket (kept_alike x found) action)
  where
    k : ℕ
    k = nodelet_of event

    same : Alike q (left.core.nodes (nodelet_of event)) (c.nodes (nodelet_of event))
    same = others_alike u c event left e q other

    kept_alike : (x : Context) → context_of q (c.nodes (nodelet_of event)).contexts ≡ Some x →
        has_no_result (left.core.nodes (nodelet_of event)) x.ticket ≡ has_no_result (c.nodes (nodelet_of event)) x.ticket
    kept_alike x found =
        ap (λ o. has_no_result (left.core.nodes (nodelet_of event)) (option_and_then (λ (y : Context). y.ticket) o)) (sym (same.context ∙ found))
        ∙ held ∙ ap (λ o. has_no_result (c.nodes (nodelet_of event)) (option_and_then (λ (y : Context). y.ticket) o)) found

-- ---- elsewhere

differ : (i j : ℕ) → i ≢ j → (i == j) ≡ false
differ i j ne = go (i == j) refl
  where
    go : (b : Bool) → (i == j) ≡ b → b ≡ false
    go false e = refl
    go true e = absurd (ne (eqb-true i j e))

-- at other nodelets a core is the same but for what was taken, and what was sent comes last
elsewhere : (c : Core) (event : Event) (d : Advance Node Packet) →
    ((o j : ℕ) → (if j == nodelet_of event then d.left o else c.links o j) ≡ untaken c event o j) →
    ((j : ℕ) → untaken c event (nodelet_of event) j ≡ c.links (nodelet_of event) j) → ElsewhereIsSame c event (core_after c (nodelet_of event) d).core
elsewhere c event d untaken_is own = record { nodes = nodes; links = links; sent = sent }
  where
    nodes : (j : ℕ) → j ≢ nodelet_of event → (if j == nodelet_of event then d.outcome.node else c.nodes j) ≡ c.nodes j
    nodes j ne = ap (λ b. if b then d.outcome.node else c.nodes j) (differ j (nodelet_of event) ne)

    links : (o j : ℕ) → o ≢ nodelet_of event → (if j == nodelet_of event then d.left o else c.links o j) ++ (if o == nodelet_of event then d.outcome.sent j else []) ≡ untaken c event o j
    links o j ne =
        ap (λ b. (if j == nodelet_of event then d.left o else c.links o j) ++ (if b then d.outcome.sent j else [])) (differ o (nodelet_of event) ne)
        ∙ append-nil (if j == nodelet_of event then d.left o else c.links o j) ∙ untaken_is o j

    sent : (j : ℕ) → (more : List Packet) × ((if j == nodelet_of event then d.left (nodelet_of event) else c.links (nodelet_of event) j) ++ (if nodelet_of event == nodelet_of event then d.outcome.sent j else []) ≡ c.links (nodelet_of event) j ++ more)
    sent j = (
      if nodelet_of event == nodelet_of event then d.outcome.sent j else [],
      ap (λ l. l ++ (if nodelet_of event == nodelet_of event then d.outcome.sent j else [])) (untaken_is (nodelet_of event) j ∙ own j),
    )

pub events_are_local : EventsAreLocal
events_are_local u c (Run k p) left e =
    let h : HasRun u c k p left = happened u c (Run k p) left e in
    subst (λ (y : After Node Packet). ElsewhereIsSame c (Run k p) y.core) h.is
    (elsewhere c (Run k p) (leaving (λ o. c.links o k) (stamped (machine_of u) k (run_stamp c k) (λ count. node.Run p count) h.raw)) untaken_is (λ j. refl))
  where
    untaken_is : (o j : ℕ) → (if j == k then c.links o k else c.links o j) ≡ c.links o j
    untaken_is o j = go (j == k) refl
      where
        go : (b : Bool) → (j == k) ≡ b → (if b then c.links o k else c.links o j) ≡ c.links o j
        go true f = ap (c.links o) (sym (eqb-true j k f))
        go false f = refl
events_are_local u c (Take origin k) left e =
    subst (λ (y : After Node Packet). ElsewhereIsSame c (Take origin k) y.core) h.is
    (elsewhere c (Take origin k)
    (leaving (but_from origin h.rest (λ o. c.links o k)) (stamped (machine_of u) k (take_stamp c k h.packet) (λ _. node.Take origin) (taken u c origin k h.packet))) untaken_is own)
  where
    h : HasTaken u c origin k left
    h = happened u c (Take origin k) left e

    untaken_is : (o j : ℕ) → (if j == k then (if o == origin then h.rest else c.links o k) else c.links o j) ≡ (if o == origin && j == k then drop 1 (c.links o j) else c.links o j)
    untaken_is o j = go (j == k) refl (o == origin) refl
      where
        go : (b : Bool) → (j == k) ≡ b → (a : Bool) → (o == origin) ≡ a → (if b then (if a then h.rest else c.links o k) else c.links o j) ≡ (if a && b then drop 1 (c.links o j) else c.links o j)
        go true f true g = sym (ap (drop 1) (ap (λ i. c.links i j) (eqb-true o origin g) ∙ ap (c.links origin) (eqb-true j k f) ∙ h.first))
        go true f false g = ap (c.links o) (sym (eqb-true j k f))
        go false f true g = refl
        go false f false g = refl

    apart : (k == origin) ≡ false
    apart = swapped k origin (no_loop (nat_lt origin u.nodelets) (nat_lt k u.nodelets) (origin == k) h.linked)
      where
        no_loop : (a b loop : Bool) → (a && b && not loop) ≡ true → loop ≡ false
        no_loop true true false f = refl
        no_loop true true true f = absurd cc
        no_loop true false loop f = absurd cc
        no_loop false b loop f = absurd cc

    own : (j : ℕ) → (if k == origin && j == k then drop 1 (c.links k j) else c.links k j) ≡ c.links k j
    own j = ap (λ b. if b && j == k then drop 1 (c.links k j) else c.links k j) apart
