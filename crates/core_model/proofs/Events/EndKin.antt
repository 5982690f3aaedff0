-- Parents and children where a strand ends, traps, or its result arrives.
use Rattle.std.proofs.Common.{◌≡◌, ℕ, List, [], Option, Some, None, refl, sym, ap, ◌∙◌, subst, Bool, true, false, ◌&&◌, ℤ}
use Rattle.std.specs.Prelude.{if◌then◌else◌, ◌==◌, slice_get}
use Rattle.std.proofs.Math.Path.{fun_ext}
use Rattle.std.proofs.lemmas.Bool.{eqb-true, eq-eqb}
use Rattle.word_ops.specs.declared.name.Name.{Name}
use Rattle.word_ops.specs.declared.ticket.Ticket.{Ticket}
use Rattle.word_ops.specs.Naming.{same_name}
use Rattle.world_model.specs.World.{Status, Live, Ended, children_at}
use Rattle.world_model.proofs.Names.{same_name_refl, same_name_is}
use Rattle.core_model.proofs.Invariant.Statement.{Relative, result_by, promise, IsGiven, ticket_at, Results, Returns, Kin}

pub same-given : (kept kept' : Option ℤ) (sent sent' : ℕ → List ℤ) (o o' : Option ℤ) → kept' ≡ kept → ((a : ℕ) → sent' a ≡ sent a) → o' ≡ o → IsGiven kept sent o → IsGiven kept' sent' o'
same-given kept kept' sent sent' o o' e1 e2 e3 g =
    subst (λ (y : Option ℤ). IsGiven kept' sent' y) (sym e3) (subst (λ (f : ℕ → List ℤ). IsGiven kept' f o) (sym (fun_ext e2)) (subst (λ (y : Option ℤ). IsGiven y sent o) (sym e1) g))

some_is : {A : Type 0} (x y : A) → Some x ≡ Some y → x ≡ y
some_is x y h = cc

none_some : {A B : Type 0} (x : A) → None ≡ Some x → B
none_some x h = absurd cc

-- ---- where no child's result changes

-- a relative that was there before, with the same home and children; it lives only if it did
pub record Was (o : Option Relative) (r : Relative) : Type 0 where
  pub old : Relative
  pub is : o ≡ Some old
  pub home : r.home ≡ old.home
  pub children : r.children ≡ old.children
  pub live : r.status ≡ Live → old.status ≡ Live

pub record Resembles (T : Name → Option Ticket) (F F' : Name → Option Relative) : Type 0 where
  pub was : (p : Name) (r : Relative) → F' p ≡ Some r → Was (F p) r
  pub now : (p : Name) (r : Relative) → F p ≡ Some r → (r' : Relative) × (F' p ≡ Some r') × (r'.home ≡ r.home) × (r'.children ≡ r.children)
  pub result : (c : Name) (t : Ticket) → T c ≡ Some t → result_by (F' c) ≡ result_by (F c)

unknown : (T : Name → Option Ticket) (F F' : Name → Option Relative) → Resembles T F F' → (p : Name) → F' p ≡ None → F p ≡ None
unknown T F F' res p none = go (F p) refl
  where
    go : (o : Option Relative) → F p ≡ o → o ≡ None
    go None e = refl
    go (Some r) e = let n = res.now p r e in none_some n.0 (sym none ∙ n.1)

pub kin-resembles : (T : Name → Option Ticket) (R : Results) (D : Returns) (F F' : Name → Option Relative) → Kin T R D F → Resembles T F F' → Kin T R D F'
kin-resembles T R D F F' kin res = record {
  given = λ p r h d o. given p r (res.was p r h) d o;
  elsewhere = λ p r h k ne d o. let w = res.was p r h in kin.elsewhere p w.old w.is k (ap (λ y. k == y) (sym w.home) ∙ ne) d o;
  stranger = λ p h k d o. kin.stranger p (unknown T F F' res p h) k d o;
  child = λ p r h d o c g. let w = res.was p r h in kin.child p w.old w.is d o c (ap (λ y. slice_get (children_at d y) o) (sym w.children) ∙ g) ∙ ap (λ y. Some (ticket_at p y d o)) (sym w.home);
  exists = λ p r h d o c g.
      let w = res.was p r h in
      let z = kin.exists p w.old w.is d o c (ap (λ y. slice_get (children_at d y) o) (sym w.children) ∙ g) in
      let n = res.now c z.0 z.1 in (n.0, n.1);
  ticket = λ c t k h live has.
      let w = res.was c t h in
      let z = kin.ticket c w.old k w.is (w.live live) has in
      let n = res.now k.parent z.0 z.1 in (n.0, n.1, z.2 ∙ sym n.2, ap (λ l. slice_get (children_at k.depth l) k.order) n.3 ∙ z.3);
}
  where
    given : (p : Name) (r : Relative) (w : Was (F p) r) (d o : ℕ) → IsGiven (R r.home p d o) (λ a. D a r.home p d o) (promise F' (slice_get (children_at d r.children) o))
    given p r w d o =
        same-given (R (w.old).home p d o) _ (λ a. D a (w.old).home p d o) _ (promise F (slice_get (children_at d (w.old).children) o)) _
        (ap (λ h. R h p d o) w.home) (λ a. ap (λ h. D a h p d o) w.home)
        (ap (λ y. promise F' (slice_get (children_at d y) o)) w.children ∙ same (slice_get (children_at d (w.old).children) o) refl) (kin.given p w.old w.is d o)
      where
        same : (y : Option Name) → slice_get (children_at d (w.old).children) o ≡ y → promise F' y ≡ promise F y
        same None e = refl
        same (Some c) e = res.result c _ (kin.child p w.old w.is d o c e)

-- ---- one relative with another status

abbrev pub with_status : (Name → Option Relative) → Name → Relative → Status → Name → Option Relative
with_status F c t status p = if same_name p c then Some (record t { status = status }) else F p

module _ (F : Name → Option Relative) (c : Name) (t : Relative) (is : F c ≡ Some t) (status : Status) (over : status ≡ Live → t.status ≡ Live) where
  abbrev F' : Name → Option Relative
  F' = with_status F c t status

  pub status_was : (p : Name) (r : Relative) → F' p ≡ Some r → Was (F p) r
  status_was p r h = go (same_name p c) refl
    where
      go : (b : Bool) → same_name p c ≡ b → Was (F p) r
      go true f =
          let e : record t { status = status } ≡ r = some_is _ _ (sym (ap (λ b. if b then Some (record t { status = status }) else F p) f) ∙ h) in
          record {
            old = t;
            is = ap F (same_name_is p c f) ∙ is;
            home = ap (λ (y : Relative). y.home) (sym e);
            children = ap (λ (y : Relative). y.children) (sym e);
            live = λ live. over (ap (λ (y : Relative). y.status) e ∙ live);
          }
      go false f = record { old = r; is = sym (ap (λ b. if b then Some (record t { status = status }) else F p) f) ∙ h; home = refl; children = refl; live = λ live. live }

  pub status_now : (p : Name) (r : Relative) → F p ≡ Some r → (r' : Relative) × (F' p ≡ Some r') × (r'.home ≡ r.home) × (r'.children ≡ r.children)
  status_now p r h = go (same_name p c) refl
    where
      go : (b : Bool) → same_name p c ≡ b → (r' : Relative) × (F' p ≡ Some r') × (r'.home ≡ r.home) × (r'.children ≡ r.children)
      go true f =
          let e : t ≡ r = some_is t r (sym is ∙ ap F (sym (same_name_is p c f)) ∙ h) in
          (record t { status = status }, ap (λ b. if b then Some (record t { status = status }) else F p) f, ap (λ (y : Relative). y.home) e, ap (λ (y : Relative). y.children) e)
      go false f = (r, ap (λ b. if b then Some (record t { status = status }) else F p) f ∙ h, refl, refl)

-- ---- a child with a ticket ends

abbrev pub is_ticket : Ticket → Name → ℕ → ℕ → Bool
is_ticket t p d o = same_name p t.parent && (d == t.depth && o == t.order)

pub record SameTicket (t : Ticket) (p : Name) (d o : ℕ) : Type 0 where
  pub parent : p ≡ t.parent
  pub depth : d ≡ t.depth
  pub order : o ≡ t.order

both_true : (a b : Bool) → (a && b) ≡ true → (a ≡ true) × (b ≡ true)
both_true true b e = (refl, e)
both_true false b e = absurd cc

pub same_ticket : (t : Ticket) (p : Name) (d o : ℕ) → is_ticket t p d o ≡ true → SameTicket t p d o
same_ticket t p d o h =
    let a = both_true (same_name p t.parent) (d == t.depth && o == t.order) h in
    let b = both_true (d == t.depth) (o == t.order) a.1 in
    record { parent = same_name_is p t.parent a.0; depth = eqb-true _ _ b.0; order = eqb-true _ _ b.1 }

pub is_own : (t : Ticket) → is_ticket t t.parent t.depth t.order ≡ true
is_own t = rw (same_name_refl t.parent, eq-eqb t.depth t.depth refl, eq-eqb t.order t.order refl) refl

module _ (T : Name → Option Ticket) (R R' : Results) (D D' : Returns) (F : Name → Option Relative) (kin : Kin T R D F) (c : Name) (t : Relative) (k : Ticket) (value : ℤ) (is : F c ≡ Some t) (alive : t.status ≡ Live) (has : T c ≡ Some k) where
  abbrev E : Name → Option Relative
  E = with_status F c t (Ended value)

  never : Ended value ≡ Live → t.status ≡ Live
  never e = absurd cc

  was : (p : Name) (r : Relative) → E p ≡ Some r → Was (F p) r
  was = status_was F c t is (Ended value) never

  now : (p : Name) (r : Relative) → F p ≡ Some r → (r' : Relative) × (E p ≡ Some r') × (r'.home ≡ r.home) × (r'.children ≡ r.children)
  now = status_now F c t is (Ended value) never

  -- the child's place among its parent's children
  pub parent : (r : Relative) × (F k.parent ≡ Some r) × (k.home ≡ r.home) × (slice_get (children_at k.depth r.children) k.order ≡ Some c)
  parent = kin.ticket c t k is alive has

  own_promise : promise E (Some c) ≡ Some value
  own_promise = ap (λ b. result_by (if b then Some (record t { status = Ended value }) else F c)) (same_name_refl c)

  other_promise : (o : Option Name) → ((d : Name) → o ≡ Some d → same_name d c ≡ false) → promise E o ≡ promise F o
  other_promise None h = refl
  other_promise (Some d) h = ap (λ b. result_by (if b then Some (record t { status = Ended value }) else F d)) (h d refl)

  -- the one with this ticket
  own : (p : Name) (r : Relative) (d o : ℕ) → F p ≡ Some r → SameTicket k p d o → (r.home ≡ k.home) × (slice_get (children_at d r.children) o ≡ Some c)
  own p r d o f s =
      let e : r ≡ parent.0 = some_is r parent.0 (sym f ∙ ap F s.parent ∙ parent.1) in (
        ap (λ (y : Relative). y.home) e ∙ sym parent.2,
        ap (λ (y : Relative). slice_get (children_at d y.children) o) e ∙ ap (λ y. slice_get (children_at y (parent.0).children) o) s.depth ∙ ap (slice_get (children_at k.depth (parent.0).children)) s.order ∙ parent.3,
      )

  pub kin-ended : ((p : Name) (d o : ℕ) → is_ticket k p d o ≡ false → ((j : ℕ) → R' j p d o ≡ R j p d o) × ((a b : ℕ) → D' a b p d o ≡ D a b p d o)) →
      IsGiven (R' k.home k.parent k.depth k.order) (λ a. D' a k.home k.parent k.depth k.order) (Some value) →
      ((j : ℕ) → (j == k.home) ≡ false → (R' j k.parent k.depth k.order ≡ None) × ((a : ℕ) → D' a j k.parent k.depth k.order ≡ [])) → Kin T R' D' E
  kin-ended out here off = record {
    given = λ p r h d o. given p r (was p r h) d o (is_ticket k p d o) refl;
    elsewhere = λ p r h j ne d o. elsewhere p r (was p r h) j ne d o (is_ticket k p d o) refl;
    stranger = λ p h j d o. stranger p h j d o (is_ticket k p d o) refl;
    child = λ p r h d o x g. let w = was p r h in kin.child p w.old w.is d o x (ap (λ y. slice_get (children_at d y) o) (sym w.children) ∙ g) ∙ ap (λ y. Some (ticket_at p y d o)) (sym w.home);
    exists = λ p r h d o x g.
        let w = was p r h in
        let z = kin.exists p w.old w.is d o x (ap (λ y. slice_get (children_at d y) o) (sym w.children) ∙ g) in
        let n = now x z.0 z.1 in (n.0, n.1);
    ticket = λ x y tk h live tx.
        let w = was x y h in
        let z = kin.ticket x w.old tk w.is (w.live live) tx in
        let n = now tk.parent z.0 z.1 in (n.0, n.1, z.2 ∙ sym n.2, ap (λ l. slice_get (children_at tk.depth l) tk.order) n.3 ∙ z.3);
  }
    where
      given : (p : Name) (r : Relative) → Was (F p) r → (d o : ℕ) (b : Bool) → is_ticket k p d o ≡ b → IsGiven (R' r.home p d o) (λ a. D' a r.home p d o) (promise E (slice_get (children_at d r.children) o))
      given p r w d o true f =
          let s = same_ticket k p d o f in
          let mine = own p w.old d o w.is s in
          let home : r.home ≡ k.home = w.home ∙ mine.0 in
          let slot : slice_get (children_at d r.children) o ≡ Some c = ap (λ y. slice_get (children_at d y) o) w.children ∙ mine.1 in
          same-given (R' k.home k.parent k.depth k.order) _ (λ a. D' a k.home k.parent k.depth k.order) _ (Some value) _
          (ap (λ h. R' h p d o) home ∙ ap (λ y. R' k.home y d o) s.parent ∙ ap (λ y. R' k.home k.parent y o) s.depth ∙ ap (R' k.home k.parent k.depth) s.order)
          (λ a. ap (λ h. D' a h p d o) home ∙ ap (λ y. D' a k.home y d o) s.parent ∙ ap (λ y. D' a k.home k.parent y o) s.depth ∙ ap (D' a k.home k.parent k.depth) s.order)
          (ap (promise E) slot ∙ own_promise) here
      given p r w d o false f =
          same-given (R (w.old).home p d o) _ (λ a. D a (w.old).home p d o) _ (promise F (slice_get (children_at d (w.old).children) o)) _
          ((out p d o f).0 r.home ∙ ap (λ h. R h p d o) w.home)
          (λ a. (out p d o f).1 a r.home ∙ ap (λ h. D a h p d o) w.home)
          (ap (λ y. promise E (slice_get (children_at d y) o)) w.children ∙ other_promise _ differs)
          (kin.given p w.old w.is d o)
        where
          differs : (x : Name) → slice_get (children_at d (w.old).children) o ≡ Some x → same_name x c ≡ false
          differs x g = go (same_name x c) refl
            where
              go : (b : Bool) → same_name x c ≡ b → b ≡ false
              go false h = refl
              go true h =
                  let e : ticket_at p (w.old).home d o ≡ k = some_is _ _ (sym (kin.child p w.old w.is d o x g) ∙ ap T (same_name_is x c h) ∙ has) in
                  let yes : is_ticket k p d o ≡ true = subst (λ (y : Ticket). is_ticket y p d o ≡ true) e (is_own (ticket_at p (w.old).home d o)) in
                  absurd (let z : true ≡ false = sym yes ∙ f in cc)

      elsewhere : (p : Name) (r : Relative) → Was (F p) r → (j : ℕ) → (j == r.home) ≡ false → (d o : ℕ) (b : Bool) → is_ticket k p d o ≡ b → (R' j p d o ≡ None) × ((a : ℕ) → D' a j p d o ≡ [])
      elsewhere p r w j ne d o true f =
          let s = same_ticket k p d o f in
          let mine = own p w.old d o w.is s in
          let g = off j (ap (λ h. j == h) (sym (w.home ∙ mine.0)) ∙ ne) in (
            ap (λ y. R' j y d o) s.parent ∙ ap (λ y. R' j k.parent y o) s.depth ∙ ap (R' j k.parent k.depth) s.order ∙ g.0,
            λ a. ap (λ y. D' a j y d o) s.parent ∙ ap (λ y. D' a j k.parent y o) s.depth ∙ ap (D' a j k.parent k.depth) s.order ∙ g.1 a,
          )
      elsewhere p r w j ne d o false f =
          let g = kin.elsewhere p w.old w.is j (ap (λ h. j == h) (sym w.home) ∙ ne) d o in
          ((out p d o f).0 j ∙ g.0, λ a. (out p d o f).1 a j ∙ g.1 a)

      before : (p : Name) → E p ≡ None → F p ≡ None
      before p h = go (F p) refl
        where
          go : (o : Option Relative) → F p ≡ o → o ≡ None
          go None e = refl
          go (Some r) e = let n = now p r e in none_some n.0 (sym h ∙ n.1)

      stranger : (p : Name) → E p ≡ None → (j d o : ℕ) (b : Bool) → is_ticket k p d o ≡ b → (R' j p d o ≡ None) × ((a : ℕ) → D' a j p d o ≡ [])
      stranger p h j d o true f = none_some parent.0 (sym (before p h) ∙ ap F (same_ticket k p d o f).parent ∙ parent.1)
      stranger p h j d o false f = let z = kin.stranger p (before p h) j d o in ((out p d o f).0 j ∙ z.0, λ a. (out p d o f).1 a j ∙ z.1 a)
