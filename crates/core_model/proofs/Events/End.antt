-- A strand ends at a nodelet.
use Rattle.std.proofs.Common.{◌≡◌, ℕ, ◌<◌, ◌≤◌, inl, inr, List, [], ◌∷◌, ◌++◌, Option, Some, None, refl, sym, ap, ◌∙◌, subst, arith, Bool, true, false, ⊎_elim, filter_map, ℤ, nat_lt, option_and_then}
use Rattle.std.specs.Prelude.{if◌then◌else◌, ◌==◌, slice_get}
use Rattle.std.proofs.lemmas.Bool.{eqb-true, eq-eqb}
use Rattle.std.proofs.lemmas.Bool.Decides.{eqb_tells, nat_tests}
use Rattle.std.proofs.lemmas.List.{append-nil}
use Rattle.word_ops.specs.declared.name.Name.{Name}
use Rattle.word_ops.specs.declared.ticket.Ticket.{Ticket}
use Rattle.word_ops.specs.declared.step.Step.TheVariants.{Act}
use Rattle.word_ops.specs.declared.step.NodeEvent.{NodeEvent}
use Rattle.word_ops.specs.Naming.{same_name}
use Rattle.merge_law.specs.Machine.{Raw, stamped, is_linked}
use Rattle.world_model.specs.Action.{End}
use Rattle.world_model.specs.World.{Live, Ended, Strand, World, strand_of, value_of, value_in, main_name, with_strand, children_at}
use Rattle.world_model.specs.Step.{step}
use Rattle.world_model.proofs.Names.{same_name_is, name_cases, lookup-same, lookup-other}
use Rattle.threadlet_code.specs.Breaches.{is_sound}
use Rattle.threadlet_code.specs.Machine.{State}
use Rattle.core_model.specs.Contexts.{Context, Body, Returned, context_of}
use Rattle.core_model.specs.Nodes.{Setup, Node, with_result, ended_for, without_strand}
use Rattle.core_model.specs.Effects.{nothing, only_to, effect, ended, quiet, sending as sending_off}
use Rattle.core_model.specs.Runs.{gone}
use Rattle.core_model.specs.Machine.{machine_of}
use Rattle.core_model.specs.Core.{Core, setting_of}
use Rattle.core_model.specs.Laws.{KeepsMainValue}
use Rattle.core_model.proofs.Invariant.ContextsByName.{context_of-without, context_of-without_other}
use Rattle.core_model.proofs.Invariant.Links.{part-kept, with_first, sent, sent-none, parts-sent, plus, plus-none, parts-run}
use Rattle.core_model.proofs.Invariant.Views.{View, view, arrival_of, item_of, ack_of, result_of, after_run, view-after_run, sending, sending-nothing}
use Rattle.core_model.proofs.Invariant.Statement.{Relative, relative, relative_of, result_by, promise, IsGiven, results_in, returns_in, relatives_in, Known, Kin, Invariant}
use Rattle.core_model.proofs.Invariant.OtherStrands.{Kept, each-but, fresh-same, orphans-same, main_value-same, kin-same, within-after}
use Rattle.core_model.proofs.Actions.StrandAfter.{stood, sending-stood, goes_off}
use Rattle.core_model.proofs.Actions.DueContext.{Before}
use Rattle.core_model.proofs.Actions.StayOrLeave.{KeepsShared, shares-kept, only_to-none, sent-only_to}
use Rattle.core_model.proofs.Actions.Grants.{granted-there}
use Rattle.core_model.proofs.Events.EndKin.{Resembles, kin-resembles, with_status, status_was, status_now, is_ticket, is_own, kin-ended}
use Rattle.core_model.proofs.Events.Trap.{relatives-status}

-- what the links hold of results after a run
pub returns-after : (u : Setup) (c : Core) (k stamp : ℕ) (event : ℕ → NodeEvent) (raw : Raw Node Body) (a b : ℕ) (p : Name) (d o : ℕ) →
    returns_in (after_run u c k stamp event raw) a b p d o ≡ plus (λ x y. returns_in c x y p d o) k (sent (result_of p d o) u.nodelets k raw.bodies) a b
returns-after u c k stamp event raw a b p d o =
    parts-run (result_of p d o) c.links k (stamped (machine_of u) k stamp event raw).sent a b
    ∙ ap (λ l. returns_in c a b p d o ++ (if a == k then l else [])) (parts-sent (result_of p d o) u.nodelets k stamp raw.bodies b)

pub returns-same : (u : Setup) (c : Core) (k stamp : ℕ) (event : ℕ → NodeEvent) (raw : Raw Node Body) → ((p : Name) (d o b : ℕ) → filter_map (result_of p d o) (raw.bodies b) ≡ []) →
    (a b : ℕ) (p : Name) (d o : ℕ) → returns_in (after_run u c k stamp event raw) a b p d o ≡ returns_in c a b p d o
returns-same u c k stamp event raw none a b p d o =
    returns-after u c k stamp event raw a b p d o ∙ plus-none (λ x y. returns_in c x y p d o) k _ (λ e. sent-none (result_of p d o) u.nodelets k raw.bodies e (none p d o e)) a b

module _ (u : Setup) (sound : is_sound u.code ≡ true) (c : Core) (w : World) (inv : Invariant u c w) (k : ℕ) (q : Name) (x : Context) (state : State) (value : ℤ) (b : Before u c w inv k q x state (End value)) (stamp : ℕ) (event : ℕ → NodeEvent) (count : ℕ) (some : 1 ≤ u.nodelets) where
  abbrev v : Node
  v = c.nodes k

  -- the strand that has ended, and the world
  abbrev over : Strand
  over = record b.s { status = Ended value }

  abbrev world' : World
  world' = with_strand w q over

  abbrev ends : Node → (ℕ → List Body) → Raw Node Body
  ends v' bodies = record { node = without_strand v' x.name; bodies = bodies; count = count; step = Some (Act x.name None) }

  abbrev after : Node → (ℕ → List Body) → Core
  after v' bodies = after_run u c k stamp event (ends v' bodies)

  abbrev kin_after : Name → Option Relative
  kin_after = with_status (relatives_in w) q (relative_of b.s) (Ended value)

  abbrev AreNone : {A : Type 0} → (Body → Option A) → (ℕ → List Body) → Type 0
  AreNone f bodies = (d : ℕ) → filter_map f (bodies d) ≡ []

  -- whatever becomes of the value
  ends_kept : (v' : Node) (bodies : ℕ → List Body) → step (setting_of u) w (Act q None) ≡ Some world' → v'.contexts ≡ v.contexts → v'.under_way ≡ v.under_way → v'.next_number ≡ v.next_number → KeepsShared v v' →
      ((r : Name) → AreNone (arrival_of r) bodies × AreNone (item_of r) bodies × AreNone (ack_of r) bodies) →
      Kin inv.tickets (results_in (after v' bodies)) (returns_in (after v' bodies)) kin_after → KeepsMainValue u (after v' bodies) world' →
      Kept u w (after v' bodies) (Some (Act x.name None))
  ends_kept v' bodies is e1 e2 e3 keeps none kin main = record {
    world = world';
    leads = leads;
    holds = record {
      shares = shares-kept u c (after v' bodies) world' k (stamped (machine_of u) k stamp event raw).node refl (record { cells = keeps.cells; granted = keeps.granted; cursors = keeps.cursors; pieces = keeps.pieces; served = keeps.served })
          (record { cells = inv.shares.cells; granted = λ j a less. inv.shares.granted j a less ∙ granted-there u.rules w world' j a refl; cursors = inv.shares.cursors; pieces = inv.shares.pieces; turns = inv.shares.turns });
      within = within-after u w world' (Some (Act x.name None)) some inv.within leads;
      tickets = inv.tickets;
      each = each-but u inv.tickets c (after v' bodies) w world' q over views others now mine inv.each;
      kin = kin-same inv.tickets _ _ _ _ kin_after (relatives_in world') kin (λ j. refl) (λ a d p e o. refl) (relatives-status w w q b.s over refl refl refl);
      fresh = fresh-same c (after v' bodies) w world' q b.s b.known others (part-kept (λ (y : Node). y.next_number) c.nodes k (stamped (machine_of u) k stamp event raw).node e3) inv.fresh;
      orphans = orphans-same inv.tickets w world' q b.s b.known others inv.orphans;
      main_ticket = inv.main_ticket;
      main_value = main;
    };
  }
    where
      raw : Raw Node Body
      raw = ends v' bodies

      leads : step (setting_of u) w (Act x.name None) ≡ Some world'
      leads = ap (λ (r : Name). step (setting_of u) w (Act r None)) b.here.name ∙ is

      now : strand_of world' q ≡ Some over
      now = lookup-same q over w.strands

      others : (r : Name) → same_name r q ≡ false → strand_of world' r ≡ strand_of w r
      others r ne = lookup-other r q over w.strands ne

      views : (r : Name) → same_name r q ≡ false → view (after v' bodies) r ≡ view c r
      views r ne = view-after_run u c k stamp event raw r ∙ sending-nothing (view c r) k _ _ _ _ _
          (context_of-without_other r x.name v'.contexts (ap (same_name r) b.here.name ∙ ne) ∙ ap (context_of r) e1) (ap (λ f. f r) e2)
          (λ d. sent-none (arrival_of r) u.nodelets k bodies d ((none r).0 d)) (λ d. sent-none (item_of r) u.nodelets k bodies d ((none r).1 d)) (λ d. sent-none (ack_of r) u.nodelets k bodies d ((none r).2 d))

      left : context_of q raw.node.contexts ≡ None
      left = subst (λ (r : Name). context_of r raw.node.contexts ≡ None) b.here.name (context_of-without x.name v'.contexts)

      view_is : view (after v' bodies) q ≡ stood u inv.tickets (view c q) k None
      view_is =
          view-after_run u c k stamp event raw q
          ∙ ap (λ y. sending (view c q) k y (raw.node.under_way q) (sent (arrival_of q) u.nodelets k bodies) (sent (item_of q) u.nodelets k bodies) (sent (ack_of q) u.nodelets k bodies)) left
          ∙ sending-stood u inv.tickets (view c q) k None _ _ _ _ (ap (λ f. f q) e2)
          (λ d. sent-none (arrival_of q) u.nodelets k bodies d ((none q).0 d)) (λ d. sent-none (item_of q) u.nodelets k bodies d ((none q).1 d)) (λ d. sent-none (ack_of q) u.nodelets k bodies d ((none q).2 d))

      mine : Known u inv.tickets (view (after v' bodies) q) q (Some over)
      mine = subst (λ (y : View). Known u inv.tickets y q (Some over)) (sym view_is) (goes_off u inv.tickets (view c q) q b.s k x b.here over tt refl (inl refl))

  nothing_sent : (r : Name) → AreNone (arrival_of r) nothing × AreNone (item_of r) nothing × AreNone (ack_of r) nothing
  nothing_sent r = (λ d. refl, λ d. refl, λ d. refl)

  own_relative : relatives_in w q ≡ Some (relative_of b.s)
  own_relative = ap relative b.known

  ends_live : Ended value ≡ Live → b.s.status ≡ Live
  ends_live e = b.here.live

  -- ---- main ends

  main_kept : inv.tickets q ≡ None → step (setting_of u) w (Act q None) ≡ Some world' → Kept u w (after (record v { main_value = Some value }) nothing) (Some (Act x.name None))
  main_kept orphan is = ends_kept v' nothing is refl refl refl (record { cells = refl; granted = refl; cursors = refl; pieces = refl; served = refl }) nothing_sent
      (kin-same inv.tickets (results_in c) _ (returns_in c) _ kin_after kin_after (kin-resembles inv.tickets (results_in c) (returns_in c) (relatives_in w) kin_after inv.kin resembles)
      (part-kept (λ (y : Node). y.results) c.nodes k (stamped (machine_of u) k stamp event (ends v' nothing)).node refl)
      (returns-same u c k stamp event (ends v' nothing) (λ p d o e. refl)) (λ p. refl))
      (λ j y e. tells j y e (j == k) refl, λ y e. (k, b.inside, ap (λ t. (if t then (stamped (machine_of u) k stamp event (ends v' nothing)).node else c.nodes k).main_value) (eq-eqb k k refl) ∙ sym value_now ∙ e))
    where
      v' : Node
      v' = record v { main_value = Some value }

      is_main : q ≡ main_name
      is_main = inv.orphans q b.s b.known orphan

      resembles : Resembles inv.tickets (relatives_in w) kin_after
      resembles = record {
        was = status_was (relatives_in w) q (relative_of b.s) own_relative (Ended value) ends_live;
        now = status_now (relatives_in w) q (relative_of b.s) own_relative (Ended value) ends_live;
        result = λ p t has. other p t has (same_name p q) refl;
      }
        where
          other : (p : Name) (t : Ticket) → inv.tickets p ≡ Some t → (y : Bool) → same_name p q ≡ y → result_by (if y then Some (record (relative_of b.s) { status = Ended value }) else relatives_in w p) ≡ result_by (relatives_in w p)
          other p t has true e = absurd (let z : Some t ≡ None = sym has ∙ ap inv.tickets (same_name_is p q e) ∙ orphan in cc)
          other p t has false e = refl

      value_now : value_of world' main_name ≡ Some value
      value_now = subst (λ (r : Name). value_of world' r ≡ Some value) is_main (ap (option_and_then (λ (s : Strand). value_in s.status)) (lookup-same q over w.strands))

      no_value : value_of w main_name ≡ None
      no_value = subst (λ (r : Name). value_of w r ≡ None) is_main (ap (option_and_then (λ (s : Strand). value_in s.status)) b.known ∙ ap value_in b.here.live)

      tells : (j : ℕ) (y : ℤ) → ((after v' nothing).nodes j).main_value ≡ Some y → (t : Bool) → (j == k) ≡ t → value_of world' main_name ≡ Some y
      tells j y e true f = value_now ∙ sym (ap (λ t. (if t then (stamped (machine_of u) k stamp event (ends v' nothing)).node else c.nodes j).main_value) f) ∙ e
      tells j y e false f = absurd (
          let old : (c.nodes j).main_value ≡ Some y = sym (ap (λ t. (if t then (stamped (machine_of u) k stamp event (ends v' nothing)).node else c.nodes j).main_value) f) ∙ e in
          let z : None ≡ Some y = sym no_value ∙ inv.main_value.0 j y old in cc)

  -- ---- a child ends

  module _ (t : Ticket) (has : inv.tickets q ≡ Some t) (is : step (setting_of u) w (Act q None) ≡ Some world') where
    parent : (r : Relative) × (relatives_in w t.parent ≡ Some r) × (t.home ≡ r.home) × (slice_get (children_at t.depth r.children) t.order ≡ Some q)
    parent = inv.kin.ticket q (relative_of b.s) t own_relative b.here.live has

    -- nothing is given at its ticket before
    not_yet : ((c.nodes t.home).results t.parent t.depth t.order ≡ None) × ((a : ℕ) → returns_in c a t.home t.parent t.depth t.order ≡ [])
    not_yet = subst (λ (h : ℕ). ((c.nodes h).results t.parent t.depth t.order ≡ None) × ((a : ℕ) → returns_in c a h t.parent t.depth t.order ≡ [])) (sym parent.2)
        (subst (λ (o : Option ℤ). IsGiven (results_in c (parent.0).home t.parent t.depth t.order) (λ a. returns_in c a (parent.0).home t.parent t.depth t.order) o)
        (ap (promise (relatives_in w)) parent.3 ∙ ap result_by own_relative ∙ ap value_in b.here.live) (inv.kin.given t.parent parent.0 parent.1 t.depth t.order))

    same_main : value_of world' main_name ≡ value_of w main_name
    same_main = ⊎_elim
        (λ e. absurd (let z : None ≡ Some t = sym inv.main_ticket ∙ ap inv.tickets e ∙ has in cc))
        (λ ne. ap (option_and_then (λ (s : Strand). value_in s.status)) (lookup-other main_name q over w.strands ne.0))
        (name_cases main_name q)

    main_as : (v' : Node) (bodies : ℕ → List Body) → v'.main_value ≡ v.main_value → KeepsMainValue u (after v' bodies) world'
    main_as v' bodies e = main_value-same u c (after v' bodies) w world' (part-kept (λ (y : Node). y.main_value) c.nodes k (stamped (machine_of u) k stamp event (ends v' bodies)).node e) same_main inv.main_value

    away : (j : ℕ) → (j == t.home) ≡ false → ((c.nodes j).results t.parent t.depth t.order ≡ None) × ((a : ℕ) → returns_in c a j t.parent t.depth t.order ≡ [])
    away j ne = inv.kin.elsewhere t.parent parent.0 parent.1 j (ap (λ h. j == h) (sym parent.2) ∙ ne) t.depth t.order

    -- its parent's home is here
    pub local_kept : (t.home == k) ≡ true → Kept u w (after (ended_for t.home (with_result v t value)) nothing) (Some (Act x.name None))
    local_kept home = ends_kept v' nothing is refl refl refl (record { cells = refl; granted = refl; cursors = refl; pieces = refl; served = refl }) nothing_sent
        (kin-ended inv.tickets (results_in c) (results_in c') (returns_in c) (returns_in c') (relatives_in w) inv.kin q (relative_of b.s) t value own_relative b.here.live has
        (λ p d o f. (λ j. results j p d o f (j == k) refl, λ a e. returns a e p d o))
        (inl (ap (λ y. (if y then N else c.nodes t.home).results t.parent t.depth t.order) home ∙ ap (λ y. if y then Some value else v.results t.parent t.depth t.order) (is_own t), λ a. returns a t.home t.parent t.depth t.order ∙ not_yet.1 a))
        (λ j ne. let z = away j ne in
        (ap (λ y. (if y then N else c.nodes j).results t.parent t.depth t.order) (ap (λ h. j == h) (sym (eqb-true _ _ home)) ∙ ne) ∙ z.0, λ a. returns a j t.parent t.depth t.order ∙ z.1 a)))
        (main_as v' nothing refl)
      where
        v' : Node
        v' = ended_for t.home (with_result v t value)

        c' : Core
        c' = after v' nothing

        N : Node
        N = (stamped (machine_of u) k stamp event (ends v' nothing)).node

        returns : (a e : ℕ) (p : Name) (d o : ℕ) → returns_in c' a e p d o ≡ returns_in c a e p d o
        returns = returns-same u c k stamp event (ends v' nothing) (λ p d o e. refl)

        results : (j : ℕ) (p : Name) (d o : ℕ) → is_ticket t p d o ≡ false → (y : Bool) → (j == k) ≡ y → (if y then N else c.nodes j).results p d o ≡ (c.nodes j).results p d o
        results j p d o f true e = ap (λ z. if z then Some value else v.results p d o) f ∙ ap (λ i. (c.nodes i).results p d o) (sym (eqb-true _ _ e))
        results j p d o f false e = refl

    -- it is elsewhere
    pub remote_kept : (t.home == k) ≡ false → Kept u w (after (ended_for t.home v) (only_to t.home (Returned t value))) (Some (Act x.name None))
    remote_kept home = ends_kept v' bodies is refl refl refl (record { cells = refl; granted = refl; cursors = refl; pieces = refl; served = refl })
        (λ r. (only_to-none (arrival_of r) t.home (Returned t value) refl, only_to-none (item_of r) t.home (Returned t value) refl, only_to-none (ack_of r) t.home (Returned t value) refl))
        (kin-ended inv.tickets (results_in c) (results_in c') (returns_in c) (returns_in c') (relatives_in w) inv.kin q (relative_of b.s) t value own_relative b.here.live has
        (λ p d o f. (
          λ j. results j p d o,
          λ a e. returns-after u c k stamp event (ends v' bodies) a e p d o
              ∙ plus-none (λ y z. returns_in c y z p d o) k _ (λ z. sent-none (result_of p d o) u.nodelets k bodies z (only_to-none (result_of p d o) t.home (Returned t value) (ap (λ y. if y then Some value else None) f) z)) a e,
        ))
        (inr (results t.home t.parent t.depth t.order ∙ not_yet.0, (k, arrived, λ a ne. own_return a t.home ∙ ap (λ y. returns_in c a t.home t.parent t.depth t.order ++ (if y then (if t.home == t.home then value ∷ [] else []) else [])) ne ∙ append-nil _ ∙ not_yet.1 a)))
        (λ j ne. let z = away j ne in
        (results j t.parent t.depth t.order ∙ z.0, λ a. own_return a j ∙ ap (λ y. returns_in c a j t.parent t.depth t.order ++ (if a == k then (if y then value ∷ [] else []) else [])) ne ∙ off a j (a == k) ∙ z.1 a)))
        (main_as v' bodies refl)
      where
        v' : Node
        v' = ended_for t.home v

        bodies : ℕ → List Body
        bodies = only_to t.home (Returned t value)

        c' : Core
        c' = after v' bodies

        results : (j : ℕ) (p : Name) (d o : ℕ) → results_in c' j p d o ≡ results_in c j p d o
        results j p d o = part-kept (λ (y : Node). y.results p d o) c.nodes k (stamped (machine_of u) k stamp event (ends v' bodies)).node refl j

        below : t.home < u.nodelets
        below = by (strand_of w t.parent) refl parent.1
          where
            by : (o : Option Strand) → strand_of w t.parent ≡ o → relative o ≡ Some parent.0 → t.home < u.nodelets
            by None e f = absurd cc
            by (Some s) e f = subst (λ h. h < u.nodelets) (sym (parent.2 ∙ ap (λ (r : Relative). r.home) (let z : parent.0 ≡ relative_of s = cc in z))) (inv.within t.parent s e).home

        linked : is_linked u.nodelets k t.home ≡ true
        linked =
            let r : nat_lt k u.nodelets ≡ true = tested k u.nodelets b.inside in
            let s : nat_lt t.home u.nodelets ≡ true = tested t.home u.nodelets below in
            let y : (k == t.home) ≡ false = grind (arith, eqb_tells) in rw (r, s, y) refl
          where
            tested : (j m : ℕ) → j < m → nat_lt j m ≡ true
            tested j m less = grind (arith, nat_tests)

        own_return : (a e : ℕ) → returns_in c' a e t.parent t.depth t.order ≡ returns_in c a e t.parent t.depth t.order ++ (if a == k then (if e == t.home then value ∷ [] else []) else [])
        own_return a e = returns-after u c k stamp event (ends v' bodies) a e t.parent t.depth t.order
            ∙ ap (λ l. returns_in c a e t.parent t.depth t.order ++ (if a == k then l else []))
            (sent-only_to (result_of t.parent t.depth t.order) u.nodelets k t.home (Returned t value) linked e ∙ ap (λ y. if e == t.home then with_first (if y then Some value else None) [] else []) (is_own t))

        arrived : returns_in c' k t.home t.parent t.depth t.order ≡ value ∷ []
        arrived = own_return k t.home ∙ ap (λ y. returns_in c k t.home t.parent t.depth t.order ++ (if y then (if t.home == t.home then value ∷ [] else []) else [])) (eq-eqb k k refl)
            ∙ ap (λ y. returns_in c k t.home t.parent t.depth t.order ++ (if y then value ∷ [] else [])) (eq-eqb t.home t.home refl) ∙ ap (λ l. l ++ value ∷ []) (not_yet.1 k)

        off : (a j : ℕ) (y : Bool) → returns_in c a j t.parent t.depth t.order ++ (if y then (let l : List ℤ = [] in l) else []) ≡ returns_in c a j t.parent t.depth t.order
        off a j true = append-nil _
        off a j false = append-nil _

  -- ---- all of them

  pub end_kept : step (setting_of u) w (Act q None) ≡ Some world' → Kept u w (after_run u c k stamp event (gone x count (effect u k v x state (End value)))) (gone x count (effect u k v x state (End value))).step
  end_kept is = go x.ticket b.here.ticket
    where
      go : (o : Option Ticket) → o ≡ inv.tickets q → Kept u w (after_run u c k stamp event (gone x count (ended k v o value))) (gone x count (ended k v o value)).step
      go None e = main_kept (sym e) is
      go (Some t) e = by (t.home == k) refl
        where
          by : (y : Bool) → (t.home == k) ≡ y → Kept u w (after_run u c k stamp event (gone x count
              (if y then quiet (ended_for t.home (with_result v t value)) [] else sending_off (ended_for t.home v) (only_to t.home (Returned t value))))) (Some (Act x.name None))
          by true f = local_kept t (sym e) is f
          by false f = remote_kept t (sym e) is f
