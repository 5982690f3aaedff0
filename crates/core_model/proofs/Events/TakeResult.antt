-- The result of a child is taken where its parent's home is.
use Rattle.std.proofs.Common.{◌≡◌, ℕ, ◌≤◌, inl, inr, List, [], ◌∷◌, Option, Some, None, refl, sym, ap, ◌∙◌, subst, Bool, true, false, ◌&&◌, ℤ}
use Rattle.std.specs.Prelude.{if◌then◌else◌, ◌==◌, slice_get}
use Rattle.std.proofs.lemmas.Bool.{eqb-true, eq-eqb}
use Rattle.word_ops.specs.declared.name.Name.{Name}
use Rattle.word_ops.specs.declared.ticket.Ticket.{Ticket}
use Rattle.word_ops.specs.declared.step.NodeEvent.{NodeEvent}
use Rattle.merge_law.specs.Machine.{Raw, stamped}
use Rattle.world_model.specs.World.{World, strand_of, children_at}
use Rattle.core_model.specs.Contexts.{Body, Returned}
use Rattle.core_model.specs.Nodes.{Setup, Node}
use Rattle.core_model.specs.Effects.{nothing}
use Rattle.core_model.specs.Takes.{take}
use Rattle.core_model.specs.Machine.{Packet, packet_of, machine_of}
use Rattle.core_model.specs.Core.{Core}
use Rattle.core_model.proofs.Invariant.Links.{part-kept, with_first, parts, sent-none, plus-none, cut, cut-same, parts-sent, parts-take}
use Rattle.core_model.proofs.Invariant.Views.{View, view, arrival_of, item_of, ack_of, result_of, after_take, view-after_take, sending-nothing, behind-other}
use Rattle.core_model.proofs.Invariant.Statement.{Relative, promise, IsGiven, Results, Returns, results_in, returns_in, relatives_in, Known, Kin, Invariant}
use Rattle.core_model.proofs.Invariant.OtherStrands.{Kept, main_value-same}
use Rattle.core_model.proofs.Actions.StayOrLeave.{shares-kept}
use Rattle.core_model.proofs.Events.EndKin.{same-given, is_ticket, is_own, same_ticket}

some_is : {A : Type 0} (x y : A) → Some x ≡ Some y → x ≡ y
some_is x y h = cc

module _ (T : Name → Option Ticket) (R R' : Results) (D D' : Returns) (F : Name → Option Relative) (kin : Kin T R D F) (k : Ticket) (y : ℤ) (from i : ℕ) (l : List ℤ) (first : D from i k.parent k.depth k.order ≡ y ∷ l) where
  -- the parent is there, the packet came to its home, and it is the one packet of this ticket
  pub record Returns-to : Type 0 where
    pub r : Relative
    pub is : F k.parent ≡ Some r
    pub home : i ≡ r.home
    pub alone : l ≡ []
    pub none : R i k.parent k.depth k.order ≡ None
    pub value : promise F (slice_get (children_at k.depth r.children) k.order) ≡ Some y
    pub others : (a : ℕ) → (a == from) ≡ false → D a i k.parent k.depth k.order ≡ []

  not_empty : {A : Type 0} → D from i k.parent k.depth k.order ≡ [] → A
  not_empty z = absurd (let w : [] ≡ y ∷ l = sym z ∙ first in cc)

  first_is : (v : ℤ) → y ∷ l ≡ v ∷ [] → v ≡ y
  first_is v e = cc

  rest_is : (v : ℤ) → y ∷ l ≡ v ∷ [] → l ≡ []
  rest_is v e = cc

  pub returned : Returns-to
  returned = by (F k.parent) refl
    where
      by : (o : Option Relative) → F k.parent ≡ o → Returns-to
      by None e = not_empty ((kin.stranger k.parent e i k.depth k.order).1 from)
      by (Some r) e = at (i == r.home) refl
        where
          at : (b : Bool) → (i == r.home) ≡ b → Returns-to
          at false f = not_empty ((kin.elsewhere k.parent r e i f k.depth k.order).1 from)
          at true f = go (promise F (slice_get (children_at k.depth r.children) k.order)) refl
              (subst (λ (h : ℕ). IsGiven (R h k.parent k.depth k.order) (λ a. D a h k.parent k.depth k.order) (promise F (slice_get (children_at k.depth r.children) k.order))) (sym home) (kin.given k.parent r e k.depth k.order))
            where
              home : i ≡ r.home
              home = eqb-true _ _ f

              go : (o : Option ℤ) → promise F (slice_get (children_at k.depth r.children) k.order) ≡ o → IsGiven (R i k.parent k.depth k.order) (λ a. D a i k.parent k.depth k.order) o → Returns-to
              go None g h = not_empty (h.1 from)
              go (Some v) g (inl h) = not_empty (h.1 from)
              go (Some v) g (inr h) = link (from == h.1.0) refl
                where
                  link : (b : Bool) → (from == h.1.0) ≡ b → Returns-to
                  link false z = not_empty (h.1.2 from z)
                  link true z =
                      let fc : from ≡ h.1.0 = eqb-true _ _ z in
                      let w : y ∷ l ≡ v ∷ [] = sym first ∙ ap (λ a. D a i k.parent k.depth k.order) fc ∙ h.1.1 in
                      record { r = r; is = e; home = home; alone = rest_is v w; none = h.0; value = g ∙ ap Some (first_is v w); others = λ a ne. h.1.2 a (ap (λ c. a == c) (sym fc) ∙ ne) }

  pub kin-returned : ((p : Name) (d o : ℕ) → is_ticket k p d o ≡ false → ((j : ℕ) → R' j p d o ≡ R j p d o) × ((a b : ℕ) → D' a b p d o ≡ D a b p d o)) → R' i k.parent k.depth k.order ≡ Some y →
      ((j : ℕ) → (j == i) ≡ false → R' j k.parent k.depth k.order ≡ R j k.parent k.depth k.order) → D' from i k.parent k.depth k.order ≡ l →
      ((a b : ℕ) → (a == from && b == i) ≡ false → D' a b k.parent k.depth k.order ≡ D a b k.parent k.depth k.order) → Kin T R' D' F
  kin-returned out here there left kept = record {
    given = λ p r h d o. given p r h d o (is_ticket k p d o) refl;
    elsewhere = λ p r h j ne d o. elsewhere p r h j ne d o (is_ticket k p d o) refl;
    stranger = λ p h j d o. stranger p h j d o (is_ticket k p d o) refl;
    child = kin.child;
    exists = kin.exists;
    ticket = kin.ticket;
  }
    where
      t : Returns-to
      t = returned

      no_left : (a : ℕ) → D' a i k.parent k.depth k.order ≡ []
      no_left a = go (a == from) refl
        where
          go : (b : Bool) → (a == from) ≡ b → D' a i k.parent k.depth k.order ≡ []
          go true f = ap (λ c. D' c i k.parent k.depth k.order) (eqb-true a from f) ∙ left ∙ t.alone
          go false f = kept a i (ap (λ b. b && i == i) f) ∙ t.others a f

      given : (p : Name) (r : Relative) → F p ≡ Some r → (d o : ℕ) (b : Bool) → is_ticket k p d o ≡ b → IsGiven (R' r.home p d o) (λ a. D' a r.home p d o) (promise F (slice_get (children_at d r.children) o))
      given p r h d o true f =
          let s = same_ticket k p d o f in
          let e : r ≡ t.r = some_is r t.r (sym h ∙ ap F s.parent ∙ t.is) in
          let home : r.home ≡ i = ap (λ (z : Relative). z.home) e ∙ sym t.home in
          same-given (R' i k.parent k.depth k.order) _ (λ a. D' a i k.parent k.depth k.order) _ (Some y) _
          (ap (λ z. R' z p d o) home ∙ ap (λ z. R' i z d o) s.parent ∙ ap (λ z. R' i k.parent z o) s.depth ∙ ap (R' i k.parent k.depth) s.order)
          (λ a. ap (λ z. D' a z p d o) home ∙ ap (λ z. D' a i z d o) s.parent ∙ ap (λ z. D' a i k.parent z o) s.depth ∙ ap (D' a i k.parent k.depth) s.order)
          (ap (λ (z : Relative). promise F (slice_get (children_at d z.children) o)) e ∙ ap (λ z. promise F (slice_get (children_at z (t.r).children) o)) s.depth
          ∙ ap (λ z. promise F (slice_get (children_at k.depth (t.r).children) z)) s.order ∙ t.value)
          (inl (here, no_left))
      given p r h d o false f = same-given (R r.home p d o) _ (λ a. D a r.home p d o) _ _ _ ((out p d o f).0 r.home) (λ a. (out p d o f).1 a r.home) refl (kin.given p r h d o)

      no_and : (b c : Bool) → c ≡ false → (b && c) ≡ false
      no_and true c g = g
      no_and false c g = refl

      elsewhere : (p : Name) (r : Relative) → F p ≡ Some r → (j : ℕ) → (j == r.home) ≡ false → (d o : ℕ) (b : Bool) → is_ticket k p d o ≡ b → (R' j p d o ≡ None) × ((a : ℕ) → D' a j p d o ≡ [])
      elsewhere p r h j ne d o true f =
          let s = same_ticket k p d o f in
          let e : r ≡ t.r = some_is r t.r (sym h ∙ ap F s.parent ∙ t.is) in
          let ni : (j == i) ≡ false = ap (λ z. j == z) (t.home ∙ ap (λ (z : Relative). z.home) (sym e)) ∙ ne in
          let z = kin.elsewhere k.parent t.r t.is j (ap (λ c. j == c) (sym t.home) ∙ ni) k.depth k.order in (
            ap (λ c. R' j c d o) s.parent ∙ ap (λ c. R' j k.parent c o) s.depth ∙ ap (R' j k.parent k.depth) s.order ∙ there j ni ∙ z.0,
            λ a. ap (λ c. D' a j c d o) s.parent ∙ ap (λ c. D' a j k.parent c o) s.depth ∙ ap (D' a j k.parent k.depth) s.order ∙ kept a j (no_and (a == from) (j == i) ni) ∙ z.1 a,
          )
      elsewhere p r h j ne d o false f = let z = kin.elsewhere p r h j ne d o in ((out p d o f).0 j ∙ z.0, λ a. (out p d o f).1 a j ∙ z.1 a)

      stranger : (p : Name) → F p ≡ None → (j d o : ℕ) (b : Bool) → is_ticket k p d o ≡ b → (R' j p d o ≡ None) × ((a : ℕ) → D' a j p d o ≡ [])
      stranger p h j d o true f = absurd (let w : None ≡ Some t.r = sym h ∙ ap F (same_ticket k p d o f).parent ∙ t.is in cc)
      stranger p h j d o false f = let z = kin.stranger p h j d o in ((out p d o f).0 j ∙ z.0, λ a. (out p d o f).1 a j ∙ z.1 a)

-- ---- the event

module _ (u : Setup) (c : Core) (w : World) (inv : Invariant u c w) (from k : ℕ) (stamp : ℕ) (event : ℕ → NodeEvent) where
  pub return_kept : (sent_at : ℕ) (t : Ticket) (value : ℤ) (left : List Packet) → c.links from k ≡ packet_of sent_at (Returned t value) ∷ left →
      Kept u w (after_take u c from k left stamp event (take u k (c.nodes k) from (Returned t value))) None
  return_kept sent_at t value left first = record {
    world = w;
    leads = refl;
    holds = record {
      shares = shares-kept u c after w k N refl (record { cells = refl; granted = refl; cursors = refl; pieces = refl; served = refl }) inv.shares;
      within = inv.within;
      tickets = inv.tickets;
      each = λ r. subst (λ (y : View). Known u inv.tickets y r (strand_of w r)) (sym (views r)) (inv.each r);
      kin = kin-returned inv.tickets (results_in c) (results_in after) (returns_in c) (returns_in after) (relatives_in w) inv.kin t value from k (parts (result_of t.parent t.depth t.order) left) holds
          (λ p d o f. (λ j. results j p d o f (j == k) refl, λ a e. returns a e p d o ∙ cut-same (λ y z. returns_in c y z p d o) from k _ (ap (parts (result_of p d o)) first ∙ ap (λ y. with_first (if y then Some value else None) (parts (result_of p d o) left)) f) a e))
          (ap (λ y. (if y then N else c.nodes k).results t.parent t.depth t.order) (eq-eqb k k refl) ∙ ap (λ y. if y then Some value else (c.nodes k).results t.parent t.depth t.order) (is_own t))
          (λ j ne. ap (λ y. (if y then N else c.nodes j).results t.parent t.depth t.order) ne)
          (returns from k t.parent t.depth t.order ∙ ap (λ y. if y then (if from == from then l else returns_in c from k t.parent t.depth t.order) else returns_in c from k t.parent t.depth t.order) (eq-eqb k k refl)
          ∙ ap (λ y. if y then l else returns_in c from k t.parent t.depth t.order) (eq-eqb from from refl))
          (λ a e ne. returns a e t.parent t.depth t.order ∙ beside a e ne (e == k) refl (a == from) refl);
      fresh = record {
        free = λ r above. inv.fresh.free r (subst (λ m. m ≤ r.number) (part-kept (λ (y : Node). y.next_number) c.nodes k N refl r.nodelet) above);
        begun = subst (λ m. 1 ≤ m) (sym (part-kept (λ (y : Node). y.next_number) c.nodes k N refl 0)) inv.fresh.begun;
      };
      orphans = inv.orphans;
      main_ticket = inv.main_ticket;
      main_value = main_value-same u c after w w (part-kept (λ (y : Node). y.main_value) c.nodes k N refl) refl inv.main_value;
    };
  }
    where
      raw : Raw Node Body
      raw = take u k (c.nodes k) from (Returned t value)

      after : Core
      after = after_take u c from k left stamp event raw

      N : Node
      N = (stamped (machine_of u) k stamp event raw).node

      l : List ℤ
      l = parts (result_of t.parent t.depth t.order) left

      holds : returns_in c from k t.parent t.depth t.order ≡ value ∷ l
      holds = ap (parts (result_of t.parent t.depth t.order)) first ∙ ap (λ y. with_first (if y then Some value else None) l) (is_own t)

      views : (r : Name) → view after r ≡ view c r
      views r =
          view-after_take u c from k left stamp event raw r
          ∙ sending-nothing _ k _ _ _ _ _ refl refl (λ d. sent-none (arrival_of r) u.nodelets k nothing d refl) (λ d. sent-none (item_of r) u.nodelets k nothing d refl) (λ d. sent-none (ack_of r) u.nodelets k nothing d refl)
          ∙ behind-other c from k (packet_of sent_at (Returned t value)) left r first refl refl refl

      returns : (a e : ℕ) (p : Name) (d o : ℕ) → returns_in after a e p d o ≡ cut (λ y z. returns_in c y z p d o) from k (parts (result_of p d o) left) a e
      returns a e p d o = parts-take (result_of p d o) c.links from k left (stamped (machine_of u) k stamp event raw).sent a e
          ∙ plus-none (cut (λ y z. returns_in c y z p d o) from k (parts (result_of p d o) left)) k _
          (λ z. parts-sent (result_of p d o) u.nodelets k stamp nothing z ∙ sent-none (result_of p d o) u.nodelets k nothing z refl) a e

      results : (j : ℕ) (p : Name) (d o : ℕ) → is_ticket t p d o ≡ false → (y : Bool) → (j == k) ≡ y → (if y then N else c.nodes j).results p d o ≡ (c.nodes j).results p d o
      results j p d o f true e = ap (λ z. if z then Some value else (c.nodes k).results p d o) f ∙ ap (λ i. (c.nodes i).results p d o) (sym (eqb-true _ _ e))
      results j p d o f false e = refl

      beside : (a e : ℕ) → (a == from && e == k) ≡ false → (y : Bool) → (e == k) ≡ y → (z : Bool) → (a == from) ≡ z →
          (if y then (if z then l else returns_in c a k t.parent t.depth t.order) else returns_in c a e t.parent t.depth t.order) ≡ returns_in c a e t.parent t.depth t.order
      beside a e ne true f true g = absurd (let z : true ≡ false = sym (rw (g, f) refl) ∙ ne in cc)
      beside a e ne true f false g = ap (λ i. returns_in c a i t.parent t.depth t.order) (sym (eqb-true _ _ f))
      beside a e ne false f z g = refl
