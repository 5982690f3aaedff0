-- A context is taken from a link.
use Rattle.std.proofs.Common.{◌≡◌, ℕ, inl, inr, List, [], ◌∷◌, Option, Some, None, refl, sym, ap, ◌∙◌, subst, Bool, true, false, ⊎_elim, ◌&&◌}
use Rattle.std.specs.Prelude.{if◌then◌else◌, ◌==◌}
use Rattle.std.proofs.lemmas.Bool.{eqb-true}
use Rattle.word_ops.specs.declared.name.Name.{Name}
use Rattle.word_ops.specs.declared.ticket.Ticket.{Ticket}
use Rattle.word_ops.specs.declared.step.NodeEvent.{NodeEvent}
use Rattle.merge_law.specs.Machine.{Raw, stamped}
use Rattle.world_model.specs.World.{Status, Live, Ended, Trapped, Strand, World, strand_of, with_at}
use Rattle.world_model.proofs.Names.{same_name_refl}
use Rattle.core_model.specs.Contexts.{Context, Body, Arrival}
use Rattle.core_model.specs.Nodes.{Setup, Node}
use Rattle.core_model.specs.Effects.{nothing}
use Rattle.core_model.specs.Takes.{take}
use Rattle.core_model.specs.Machine.{Packet, packet_of, machine_of}
use Rattle.core_model.specs.Core.{Core}
use Rattle.core_model.proofs.Invariant.ContextsByName.{context_of-with, context_of-with_other}
use Rattle.core_model.proofs.Invariant.Links.{with_first, parts, sent-none, plus-none, cut, cut-same, with_at-same}
use Rattle.core_model.proofs.Invariant.Views.{View, view, same_view, arrival_of, item_of, ack_of, after_take, view-after_take}
use Rattle.core_model.proofs.Invariant.StrandStates.{IsStateOf}
use Rattle.core_model.proofs.Invariant.Statement.{Spot, At, OnLink, stands_by, travels_by, latest, Parcels, IsAway, IsBound, Lives, ByStatus, Known, Invariant}
use Rattle.core_model.proofs.Invariant.StandingStrand.{stands-known}
use Rattle.core_model.proofs.Invariant.OtherStrands.{Kept, QuietFor, leaves-take, framed}
use Rattle.core_model.proofs.Actions.StayOrLeave.{shares-kept}

-- the strand of a context that travels from o to k
pub record OnWay (u : Setup) (T : Name → Option Ticket) (v : View) (q : Name) (o : Option Strand) (from k : ℕ) (x : Context) (more : List Context) : Type 0 where
  pub s : Strand
  pub known : o ≡ Some s
  pub live : s.status ≡ Live
  pub parcels : Parcels u.nodelets v s.place s.pending
  pub lives : Lives u T v q s
  pub is : lives.x ≡ x
  pub spot : lives.spot ≡ OnLink from k
  pub alone : more ≡ []

empty_some : {A B : Type 0} (y : A) (l : List A) → [] ≡ y ∷ l → B
empty_some y l e = absurd cc

first_is : (a b : Context) (l : List Context) → a ∷ [] ≡ b ∷ l → a ≡ b
first_is a b l e = cc

rest_is : (a b : Context) (l : List Context) → a ∷ [] ≡ b ∷ l → l ≡ []
rest_is a b l e = let z : [] ≡ l = cc in sym z

module _ (u : Setup) (T : Name → Option Ticket) where
  way_of : (v : View) (q : Name) (s : Strand) (from k : ℕ) (x : Context) (l : List Context) → Parcels u.nodelets v s.place s.pending → s.status ≡ Live → v.travels from k ≡ x ∷ l →
      (lv : Lives u T v q s) → (p : Spot) → lv.spot ≡ p → OnWay u T v q (Some s) from k x l
  way_of v q s from k x l parcels live is lv (At j) f = empty_some x l (sym (lv.travels from k ∙ ap (λ p. travels_by p lv.x from k) f) ∙ is)
  way_of v q s from k x l parcels live is lv (OnLink a d) f = go (from == a) refl (k == d) refl
    where
      holds : (if (from == a) && (k == d) then lv.x ∷ [] else []) ≡ x ∷ l
      holds = sym (lv.travels from k ∙ ap (λ p. travels_by p lv.x from k) f) ∙ is

      go : (r : Bool) → (from == a) ≡ r → (t : Bool) → (k == d) ≡ t → OnWay u T v q (Some s) from k x l
      go true g true h =
          let both : ((from == a) && (k == d)) ≡ true = rw (g, h) refl in
          let one : lv.x ∷ [] ≡ x ∷ l = sym (ap (λ t. if t then lv.x ∷ [] else []) both) ∙ holds in
          record {
            s = s;
            known = refl;
            live = live;
            parcels = parcels;
            lives = lv;
            is = first_is lv.x x l one;
            spot = f ∙ ap (λ t. OnLink t d) (sym (eqb-true from a g)) ∙ ap (OnLink from) (sym (eqb-true k d h));
            alone = rest_is lv.x x l one;
          }
      go false g t h = empty_some x l (sym (ap (λ y. if y && (k == d) then lv.x ∷ [] else []) g) ∙ holds)
      go true g false h = empty_some x l (sym (ap (λ y. if y && (k == d) then lv.x ∷ [] else []) g ∙ ap (λ y. if y then lv.x ∷ [] else []) h) ∙ holds)

  pub on_way : (v : View) (q : Name) (o : Option Strand) (from k : ℕ) (x : Context) (l : List Context) → Known u T v q o → v.travels from k ≡ x ∷ l → OnWay u T v q o from k x l
  on_way v q None from k x l known is = empty_some x l (sym (known.gone.travels from k) ∙ is)
  on_way v q (Some s) from k x l known is = by s.status refl known.1
    where
      by : (t : Status) → s.status ≡ t → ByStatus u T v q s t → OnWay u T v q (Some s) from k x l
      by Live live lv = way_of v q s from k x l known.0 live is lv lv.spot refl
      by (Ended value) e g = empty_some x l (sym (g.travels from k) ∙ is)
      by (Trapped kind at) e g = empty_some x l (sym (g.travels from k) ∙ is)

  abbrev pub arrived : View → ℕ → ℕ → Context → View
  arrived v from k x = record { stands = with_at v.stands k (Some x); travels = cut v.travels from k []; items = v.items; acks = v.acks; under_way = v.under_way }

  pub arrives : (v : View) (q : Name) (o : Option Strand) (from k : ℕ) (x : Context) (l : List Context) → (way : OnWay u T v q o from k x l) → Known u T (arrived v from k x) q (Some way.s)
  arrives v q o from k x l way =
      stands-known u T (arrived v from k x) q way.s k x (record {
        live = way.live;
        parcels = record { items = way.parcels.items; acks = way.parcels.acks; counted = way.parcels.counted; uncounted = way.parcels.uncounted; beyond = way.parcels.beyond };
        stands = λ j. there j (j == k);
        travels = λ a d. off a d (d == k) refl (a == from) refl;
        name = subst (λ (y : Context). y.name ≡ q) way.is lv.name;
        home = subst (λ (y : Context). y.home ≡ way.s.home) way.is lv.home;
        place = subst (λ (y : Context). y.place ≡ way.s.place) way.is lv.place;
        ticket = subst (λ (y : Context). y.ticket ≡ T q) way.is lv.ticket;
        state = subst (λ (y : Context). IsStateOf u.code way.s y.state) way.is lv.state;
        late = subst (λ (y : Context). way.s.late ≡ latest u.nodelets v way.s y) way.is lv.late;
        bound = ⊎_elim (λ f. inl f)
            (λ (away : IsAway u v way.s x k). inr (record { clear = away.clear; late = away.late; action = away.action; next = away.next; good = away.good; joins = away.joins; goes = away.goes })) bound.2;
      })
    where
      lv : Lives u T v q way.s
      lv = way.lives

      bound : IsBound u v way.s x (OnLink from k)
      bound = subst (λ (y : Context). IsBound u v way.s y (OnLink from k)) way.is (subst (λ (p : Spot). IsBound u v way.s lv.x p) way.spot lv.bound)

      there : (j : ℕ) (t : Bool) → (if t then Some x else v.stands j) ≡ (if t then Some x else None)
      there j true = refl
      there j false = lv.stands j ∙ ap (λ p. stands_by p lv.x j) way.spot

      was : (a d : ℕ) → v.travels a d ≡ (if a == from && d == k then lv.x ∷ [] else [])
      was a d = lv.travels a d ∙ ap (λ p. travels_by p lv.x a d) way.spot

      last : (r : Bool) (l : List Context) → (if r && false then l else []) ≡ []
      last true l = refl
      last false l = refl

      off : (a d : ℕ) (t : Bool) → (d == k) ≡ t → (r : Bool) → (a == from) ≡ r → (if t then (if r then [] else v.travels a k) else v.travels a d) ≡ []
      off a d true f true g = refl
      off a d true f false g = was a k ∙ ap (λ y. if y && k == k then lv.x ∷ [] else []) g
      off a d false f r g = was a d ∙ ap (λ y. if a == from && y then lv.x ∷ [] else []) f ∙ last (a == from) (lv.x ∷ [])

module _ (u : Setup) (c : Core) (w : World) (inv : Invariant u c w) (from k : ℕ) (stamp : ℕ) (event : ℕ → NodeEvent) where
  pub arrival_kept : (sent_at : ℕ) (x : Context) (left : List Packet) → c.links from k ≡ packet_of sent_at (Arrival x) ∷ left →
      Kept u w (after_take u c from k left stamp event (take u k (c.nodes k) from (Arrival x))) None
  arrival_kept sent_at x left first = record {
    world = w;
    leads = refl;
    holds = framed u c after w w q way.s way.s inv
        (leaves-take u c k stamp event raw q rest from (packet_of sent_at (Arrival x)) left first (λ r ne. (ap (λ t. if t then Some x else None) ne, refl, refl)) (λ p d o. refl))
        (record { known = way.known; now = way.known; others = λ r ne. refl; home = refl; children = refl; status = refl }) inv.within
        (shares-kept u c after w k (stamped (machine_of u) k stamp event raw).node refl (record { cells = refl; granted = refl; cursors = refl; pieces = refl; served = refl }) inv.shares) mine;
  }
    where
      q : Name
      q = x.name

      v : Node
      v = c.nodes k

      raw : Raw Node Body
      raw = take u k v from (Arrival x)

      after : Core
      after = after_take u c from k left stamp event raw

      rest : QuietFor v q raw
      rest = record {
        contexts = λ r ne. context_of-with_other r x v.contexts ne;
        counts = λ r ne. refl;
        results = refl;
        next_number = refl;
        main_value = refl;
        arrivals = λ r ne d. refl;
        items = λ r ne d. refl;
        acks = λ r ne d. refl;
        returns = λ p d o a. refl;
      }

      holds : (view c q).travels from k ≡ x ∷ parts (arrival_of q) left
      holds = ap (parts (arrival_of q)) first ∙ ap (λ t. with_first (if t then Some x else None) (parts (arrival_of q) left)) (same_name_refl q)

      way : OnWay u inv.tickets (view c q) q (strand_of w q) from k x (parts (arrival_of q) left)
      way = on_way u inv.tickets (view c q) q (strand_of w q) from k x (parts (arrival_of q) left) (inv.each q) holds

      passed : {A : Type 0} (f : Body → Option A) → f (Arrival x) ≡ None → parts f (c.links from k) ≡ parts f left
      passed f none = ap (parts f) first ∙ ap (λ y. with_first y (parts f left)) none

      view_is : view after q ≡ arrived u inv.tickets (view c q) from k x
      view_is =
          view-after_take u c from k left stamp event raw q
          ∙ same_view _ _
          (λ j. ap (λ y. with_at (view c q).stands k y j) (context_of-with x v.contexts))
          (λ a d. plus-none (cut (view c q).travels from k (parts (arrival_of q) left)) k _ (λ e. sent-none (arrival_of q) u.nodelets k nothing e refl) a d ∙ ap (λ l. cut (view c q).travels from k l a d) way.alone)
          (λ a d. plus-none (cut (view c q).items from k (parts (item_of q) left)) k _ (λ e. sent-none (item_of q) u.nodelets k nothing e refl) a d ∙ cut-same (view c q).items from k _ (passed (item_of q) refl) a d)
          (λ a d. plus-none (cut (view c q).acks from k (parts (ack_of q) left)) k _ (λ e. sent-none (ack_of q) u.nodelets k nothing e refl) a d ∙ cut-same (view c q).acks from k _ (passed (ack_of q) refl) a d)
          (with_at-same (view c q).under_way k)

      mine : Known u inv.tickets (view after q) q (Some way.s)
      mine = subst (λ (y : View). Known u inv.tickets y q (Some way.s)) (sym view_is) (arrives u inv.tickets (view c q) q (strand_of w q) from k x (parts (arrival_of q) left) way)
