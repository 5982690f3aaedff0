-- An item is taken from a link and applied, and an acknowledgement goes back.
use Rattle.std.proofs.Common.{◌≡◌, ℕ, ◌+◌, ◌<◌, ◌≤◌, inl, List, [], ◌∷◌, ◌++◌, length, Option, Some, None, refl, sym, ap, ◌∙◌, subst, arith, Bool, true, false, ⊎_elim, length-append, option_and_then}
use Rattle.std.specs.Prelude.{if◌then◌else◌, ◌==◌}
use Rattle.std.proofs.lemmas.Bool.{eqb-true, eq-eqb}
use Rattle.std.proofs.lemmas.List.{append-nil}
use Rattle.word_ops.specs.declared.place.Pos.{Pos}
use Rattle.word_ops.specs.declared.name.Name.{Name}
use Rattle.word_ops.specs.declared.ticket.Ticket.{Ticket}
use Rattle.word_ops.specs.declared.step.Step.TheVariants.{Apply}
use Rattle.word_ops.specs.declared.step.NodeEvent.{NodeEvent}
use Rattle.merge_law.specs.Machine.{Raw, stamped, is_linked}
use Rattle.world_model.specs.World.{Item, Status, Live, Ended, Trapped, Strand, World, lookup, strand_of, with_strand, with_at}
use Rattle.world_model.specs.Step.{applied_at, step}
use Rattle.world_model.proofs.Names.{same_name_refl, lookup-same, lookup-other}
use Rattle.core_model.specs.Contexts.{Context, Body, Issued, Ack, context_of}
use Rattle.core_model.specs.Nodes.{Setup, Node}
use Rattle.core_model.specs.Takes.{with_item, late_of, take}
use Rattle.core_model.specs.Machine.{Packet, packet_of, machine_of}
use Rattle.core_model.specs.Core.{Core, setting_of}
use Rattle.core_model.proofs.Invariant.Links.{with_first, parts, sent-none, plus, plus-none, cut, cut-same, with_at-same}
use Rattle.core_model.proofs.Invariant.Sums.{total-same}
use Rattle.core_model.proofs.Invariant.LatePositions.{lesser, lates, all_lates, lates-append, all_lates-one}
use Rattle.core_model.proofs.Invariant.Views.{View, view, same_view, arrival_of, item_of, ack_of, result_of, after_take, view-after_take}
use Rattle.core_model.proofs.Invariant.StrandStates.{IsStateOf}
use Rattle.core_model.proofs.Invariant.Statement.{Spot, At, OnLink, Parcels, IsAway, IsBound, Lives, ByStatus, Known, Invariant}
use Rattle.core_model.proofs.Invariant.StandingStrand.{quiet}
use Rattle.core_model.proofs.Invariant.OtherStrands.{Kept, QuietFor, leaves-take, framed, within-after}
use Rattle.core_model.proofs.Actions.StayOrLeave.{only_to-none, sent-only_to}
use Rattle.core_model.proofs.Actions.WordActions.{Shares, shares-as}

-- the strand of an item that travels from o to k
pub record HasItem (u : Setup) (T : Name → Option Ticket) (v : View) (q : Name) (o : Option Strand) (from k : ℕ) (item : Item) (more : List Item) : Type 0 where
  pub s : Strand
  pub known : o ≡ Some s
  pub place : from ≡ s.place
  pub pending : s.pending k ≡ item ∷ more
  pub parcels : Parcels u.nodelets v s.place s.pending
  pub status : ByStatus u T v q s s.status

none_first : {A B : Type 0} (y : A) (l : List A) → [] ≡ y ∷ l → B
none_first y l e = absurd cc

module _ (u : Setup) (T : Name → Option Ticket) where
  abbrev n : ℕ
  n = u.nodelets

  pub has_item : (v : View) (q : Name) (o : Option Strand) (from k : ℕ) (item : Item) (l : List Item) → Known u T v q o → v.items from k ≡ item ∷ l → HasItem u T v q o from k item l
  has_item v q None from k item l known is = none_first item l (sym (known.items from k) ∙ is)
  has_item v q (Some s) from k item l known is = go (from == s.place) refl
    where
      holds : (if from == s.place then s.pending k else []) ≡ item ∷ l
      holds = sym (known.0.items from k) ∙ is

      go : (t : Bool) → (from == s.place) ≡ t → HasItem u T v q (Some s) from k item l
      go true f = record {
        s = s;
        known = refl;
        place = eqb-true _ _ f;
        pending = sym (ap (λ t. if t then s.pending k else []) f) ∙ holds;
        parcels = known.0;
        status = known.1;
      }
      go false f = none_first item l (sym (ap (λ t. if t then s.pending k else []) f) ∙ holds)

  -- the item is gone, and its acknowledgement is on the way back
  abbrev pub item_gone : View → ℕ → ℕ → List Item → Option Pos → View
  item_gone v o k l late = record { stands = v.stands; travels = v.travels; items = cut v.items o k l; acks = plus v.acks k (λ d. if d == o then late ∷ [] else []); under_way = v.under_way }

  item_parcels : (v : View) (o k : ℕ) (pending : ℕ → List Item) (item : Item) (l : List Item) (late : Option Pos) → Parcels n v o pending → pending k ≡ item ∷ l → k < n →
      Parcels n (item_gone v o k l late) o (with_at pending k l)
  item_parcels v o k pending item l late p is less = record {
    items = λ a d. items a d (d == k) refl (a == o) refl;
    acks = λ a d f. acks a d f (a == k);
    counted = p.counted ∙ sym (total-same n _ _ (λ d m. count d (d == k) refl));
    uncounted = p.uncounted;
    beyond = λ d le. beyond d le (d == k) refl;
  }
    where
      items : (a d : ℕ) (t : Bool) → (d == k) ≡ t → (r : Bool) → (a == o) ≡ r → (if t then (if r then l else v.items a k) else v.items a d) ≡ (if r then (if t then l else pending d) else [])
      items a d true f true g = refl
      items a d true f false g = p.items a k ∙ ap (λ y. if y then pending k else []) g
      items a d false f true g = p.items a d ∙ ap (λ y. if y then pending d else []) g
      items a d false f false g = p.items a d ∙ ap (λ y. if y then pending d else []) g

      acks : (a d : ℕ) → (d == o) ≡ false → (t : Bool) → v.acks a d ++ (if t then (if d == o then late ∷ [] else []) else []) ≡ []
      acks a d f true = ap (λ y. v.acks a d ++ (if y then late ∷ [] else [])) f ∙ append-nil (v.acks a d) ∙ p.acks a d f
      acks a d f false = append-nil (v.acks a d) ∙ p.acks a d f

      count : (d : ℕ) (t : Bool) → (d == k) ≡ t → length (if t then l else pending d) + length (v.acks d o ++ (if t then (if o == o then late ∷ [] else []) else [])) ≡ length (pending d) + length (v.acks d o)
      count d true f =
          let g : length (v.acks d o ++ (if o == o then late ∷ [] else [])) ≡ length (v.acks d o ++ late ∷ []) = ap (λ y. length (v.acks d o ++ (if y then late ∷ [] else []))) (eq-eqb o o refl) in
          let h = length-append (v.acks d o) (late ∷ []) in
          let j : length (pending d) ≡ length (item ∷ l) = ap (λ i. length (pending i)) (eqb-true _ _ f) ∙ ap length is in
          omega arith
      count d false f = ap (λ y. length (pending d) + length y) (append-nil (v.acks d o))

      beyond : (d : ℕ) → n ≤ d → (t : Bool) → (d == k) ≡ t → ((if t then l else pending d) ≡ []) × (v.acks d o ++ (if t then (if o == o then late ∷ [] else []) else []) ≡ [])
      beyond d le true f = absurd (let g = eqb-true _ _ f in omega arith)
      beyond d le false f = ((p.beyond d le).0, append-nil (v.acks d o) ∙ (p.beyond d le).1)

  -- the strand once the item left its list
  abbrev pub applied_strand : Strand → ℕ → List Item → Option Pos → Strand
  applied_strand s k l late = record s { pending = with_at s.pending k l; late = late }

  same_state : (s : Strand) (k : ℕ) (l : List Item) (late : Option Pos) (state : _) → IsStateOf u.code s state → IsStateOf u.code (applied_strand s k l late) state
  same_state s k l late state is = record { follows = is.follows; fits = is.fits; tidy = is.tidy; owes = is.owes }

  pub item_known : (v : View) (q : Name) (s : Strand) (o k : ℕ) (item : Item) (l : List Item) (late late' : Option Pos) → o ≡ s.place → s.pending k ≡ item ∷ l → Parcels n v s.place s.pending →
      ByStatus u T v q s s.status → k < n → late' ≡ lesser late s.late → Known u T (item_gone v o k l late) q (Some (applied_strand s k l late'))
  item_known v q s o k item l late late' place is p status less now = (
    subst (λ a. Parcels n v' a (with_at s.pending k l)) place (item_parcels v o k s.pending item l late (subst (λ a. Parcels n v a s.pending) (sym place) p) is less),
    by s.status status,
  )
    where
      v' : View
      v' = item_gone v o k l late

      s' : Strand
      s' = applied_strand s k l late'

      busy : {A : Type 0} → v.under_way s.place ≡ 0 → A
      busy z = none_first item l (sym ((quiet n v s.place s.pending p z).pending_none k) ∙ is)

      bound : (x : Context) (spot : Spot) → IsBound u v s x spot → IsBound u v' s' x spot
      bound x (At j) b = ⊎_elim (λ f. inl f) (λ (away : IsAway u v s x j). busy away.clear) b
      bound x (OnLink a d) b = busy b.0

      lates-on : (lv : Lives u T v q s) → late' ≡ all_lates n (λ d. v'.acks d s.place) lv.x.late
      lates-on lv = now ∙ ap (lesser late) lv.late ∙ sym (all_lates-one n (λ d. v.acks d s.place) (λ d. v'.acks d s.place) late lv.x.late k less
          (λ d f. ap (λ t. v.acks d s.place ++ (if t then (if s.place == o then late ∷ [] else []) else [])) f ∙ append-nil (v.acks d s.place))
          (λ y. ap (λ t. lates (v.acks k s.place ++ (if t then (if s.place == o then late ∷ [] else []) else [])) y) (eq-eqb k k refl)
          ∙ ap (λ t. lates (v.acks k s.place ++ (if t then late ∷ [] else [])) y) (eq-eqb s.place o (sym place)) ∙ lates-append (v.acks k s.place) late y))

      by : (t : Status) → ByStatus u T v q s t → ByStatus u T v' q s' t
      by Live lv = record {
        x = lv.x;
        spot = lv.spot;
        stands = lv.stands;
        travels = lv.travels;
        name = lv.name;
        home = lv.home;
        place = lv.place;
        ticket = lv.ticket;
        state = same_state s k l late' lv.x.state lv.state;
        late = lates-on lv;
        bound = bound lv.x lv.spot lv.bound;
      }
      by (Ended value) g = record { stands = g.stands; travels = g.travels }
      by (Trapped kind at) g = record { stands = g.stands; travels = g.travels }

module _ (u : Setup) (c : Core) (w : World) (inv : Invariant u c w) (from k : ℕ) (linked : is_linked u.nodelets k from ≡ true) (inside : k < u.nodelets) (some : 1 ≤ u.nodelets) (stamp : ℕ) (event : ℕ → NodeEvent)
    (sent_at : ℕ) (q : Name) (item : Item) (left : List Packet) (first : c.links from k ≡ packet_of sent_at (Issued q item) ∷ left) where
  abbrev v : Node
  v = c.nodes k

  abbrev l : List Item
  l = parts (item_of q) left

  abbrev raw : Raw Node Body
  raw = take u k v from (Issued q item)

  pub the_item : HasItem u inv.tickets (view c q) q (strand_of w q) from k item l
  the_item = has_item u inv.tickets (view c q) q (strand_of w q) from k item l (inv.each q)
      (ap (parts (item_of q)) first ∙ ap (λ t. with_first (if t then Some item else None) l) (same_name_refl q))

  -- whatever the nodelet does with it, where it changes what is shared as the world does
  pub item_kept : (late' : Option Pos) (base : World) → (with_item u v item).contexts ≡ v.contexts → (with_item u v item).under_way ≡ v.under_way → (with_item u v item).results ≡ v.results →
      (with_item u v item).next_number ≡ v.next_number → (with_item u v item).main_value ≡ v.main_value → base.strands ≡ w.strands → late' ≡ lesser (late_of u v item) the_item.s.late →
      applied_at (setting_of u) w q the_item.s k (item ∷ l) ≡ Some (with_strand base q (applied_strand u inv.tickets the_item.s k l late')) → Shares u c k (with_item u v item) base →
      Kept u w (after_take u c from k left stamp event raw) raw.step
  item_kept late' base e1 e2 e3 e4 e5 strands now is shares = record {
    world = world';
    leads = leads;
    holds = framed u c after w world' q h.s s' inv
        (leaves-take u c k stamp event raw q rest from (packet_of sent_at (Issued q item)) left first (λ r ne. (refl, ap (λ t. if t then Some item else None) ne, refl)) (λ p d o. refl))
        (record {
          known = h.known;
          now = lookup-same q s' base.strands;
          others = λ r ne. lookup-other r q s' base.strands ne ∙ ap (lookup r) strands;
          home = refl;
          children = refl;
          status = refl;
        })
        (within-after u w world' raw.step some inv.within leads)
        (shares-as u c after base q s' k (with_item u v item) (stamped (machine_of u) k stamp event raw).node refl (record { cells = refl; granted = refl; cursors = refl; pieces = refl; served = refl }) shares) mine;
  }
    where
      h : HasItem u inv.tickets (view c q) q (strand_of w q) from k item l
      h = the_item

      late : Option Pos
      late = late_of u v item

      s' : Strand
      s' = applied_strand u inv.tickets h.s k l late'

      world' : World
      world' = with_strand base q s'

      after : Core
      after = after_take u c from k left stamp event raw

      leads : step (setting_of u) w (Apply q k) ≡ Some world'
      leads = ap (option_and_then (λ s. applied_at (setting_of u) w q s k (s.pending k))) h.known ∙ ap (applied_at (setting_of u) w q h.s k) h.pending ∙ is

      rest : QuietFor v q raw
      rest = record {
        contexts = λ r ne. ap (context_of r) e1;
        counts = λ r ne. ap (λ f. f r) e2;
        results = e3;
        next_number = e4;
        main_value = e5;
        arrivals = λ r ne. only_to-none (arrival_of r) from (Ack q late) refl;
        items = λ r ne. only_to-none (item_of r) from (Ack q late) refl;
        acks = λ r ne. only_to-none (ack_of r) from (Ack q late) (ap (λ t. if t then Some late else None) ne);
        returns = λ p d o. only_to-none (result_of p d o) from (Ack q late) refl;
      }

      passed : {A : Type 0} (f : Body → Option A) → f (Issued q item) ≡ None → parts f (c.links from k) ≡ parts f left
      passed f none = ap (parts f) first ∙ ap (λ y. with_first y (parts f left)) none

      view_is : view after q ≡ item_gone u inv.tickets (view c q) from k l late
      view_is =
          view-after_take u c from k left stamp event raw q
          ∙ same_view _ _
          (λ j. ap (λ y. with_at (view c q).stands k y j) (ap (context_of q) e1) ∙ with_at-same (view c q).stands k j)
          (λ a d. plus-none (cut (view c q).travels from k (parts (arrival_of q) left)) k _ (λ e. sent-none (arrival_of q) u.nodelets k raw.bodies e (only_to-none (arrival_of q) from (Ack q late) refl e)) a d
          ∙ cut-same (view c q).travels from k _ (passed (arrival_of q) refl) a d)
          (plus-none (cut (view c q).items from k l) k _ (λ e. sent-none (item_of q) u.nodelets k raw.bodies e (only_to-none (item_of q) from (Ack q late) refl e)))
          (λ a d. ap (λ y. cut (view c q).acks from k (parts (ack_of q) left) a d ++ (if a == k then y else []))
          (sent-only_to (ack_of q) u.nodelets k from (Ack q late) linked d ∙ ap (λ t. if d == from then with_first (if t then Some late else None) [] else []) (same_name_refl q))
          ∙ ap (λ y. y ++ (if a == k then (if d == from then late ∷ [] else []) else [])) (cut-same (view c q).acks from k _ (passed (ack_of q) refl) a d))
          (λ j. ap (λ y. with_at (view c q).under_way k y j) (ap (λ f. f q) e2) ∙ with_at-same (view c q).under_way k j)

      mine : Known u inv.tickets (view after q) q (Some s')
      mine = subst (λ (y : View). Known u inv.tickets y q (Some s')) (sym view_is)
          (item_known u inv.tickets (view c q) q h.s from k item l late late' h.place h.pending h.parcels h.status inside now)
