-- Parents and children where a child is born.
use Rattle.std.proofs.Common.{◌≡◌, ℕ, zero, suc, ◌⊎◌, inl, inr, List, [], ◌∷◌, ◌++◌, length, map, filter, Option, Some, None, refl, sym, ap, ◌∙◌, subst, arith, Bool, true, false, ⊎_elim, ℤ}
use Rattle.std.specs.Prelude.{if◌then◌else◌, ◌==◌, slice_get}
use Rattle.std.proofs.lemmas.Bool.{eqb-true, eq-eqb}
use Rattle.std.proofs.lemmas.Option.{slice_get_past}
use Rattle.std.proofs.lemmas.List.{append-nil}
use Rattle.word_ops.specs.declared.name.Name.{Name}
use Rattle.word_ops.specs.declared.ticket.Ticket.{Ticket}
use Rattle.word_ops.specs.Naming.{same_name}
use Rattle.world_model.specs.World.{Live, children_at}
use Rattle.world_model.proofs.Names.{same_name_refl, same_name_is, name_cases}
use Rattle.core_model.proofs.Invariant.Statement.{Relative, result_by, promise, IsGiven, ticket_at, Results, Returns, Kin}
use Rattle.core_model.proofs.Events.EndKin.{same-given}

some_is : {A : Type 0} (x y : A) → Some x ≡ Some y → x ≡ y
some_is x y h = cc

-- one more child at a depth
pub more_at : (e d : ℕ) (c : Name) (cs : List (ℕ × Name)) → children_at e (cs ++ (d, c) ∷ []) ≡ children_at e cs ++ (if d == e then c ∷ [] else [])
more_at e d c [] = go (d == e)
  where
    go : (t : Bool) → map (λ (child : ℕ × Name). child.1) (if t then (d, c) ∷ [] else []) ≡ (if t then c ∷ [] else [])
    go true = refl
    go false = refl
more_at e d c (x ∷ cs) = go (more_at e d c cs) (x.0 == e)
  where
    go : children_at e (cs ++ (d, c) ∷ []) ≡ children_at e cs ++ (if d == e then c ∷ [] else []) → (t : Bool) →
        map (λ (child : ℕ × Name). child.1) (if t then x ∷ filter (λ child. child.0 == e) (cs ++ (d, c) ∷ []) else filter (λ child. child.0 == e) (cs ++ (d, c) ∷ []))
        ≡ map (λ (child : ℕ × Name). child.1) (if t then x ∷ filter (λ child. child.0 == e) cs else filter (λ child. child.0 == e) cs) ++ (if d == e then c ∷ [] else [])
    go ih true = ap (λ l. x.1 ∷ l) ih
    go ih false = ih

-- a slot of a list with one more
pub slot_more : (l : List Name) (c x : Name) (o : ℕ) → slice_get (l ++ c ∷ []) o ≡ Some x → (slice_get l o ≡ Some x) ⊎ ((o ≡ length l) × (x ≡ c))
slot_more [] c x zero e = inr (refl, let z : x ≡ c = cc in z)
slot_more [] c x (suc o) e = absurd cc
slot_more (y ∷ l) c x zero e = inl e
slot_more (y ∷ l) c x (suc o) e = ⊎_elim (λ h. inl h) (λ h. inr (ap suc h.0, h.1)) (slot_more l c x o e)

pub slot_kept : (l : List Name) (c x : Name) (o : ℕ) → slice_get l o ≡ Some x → slice_get (l ++ c ∷ []) o ≡ Some x
slot_kept [] c x o e = absurd cc
slot_kept (y ∷ l) c x zero e = e
slot_kept (y ∷ l) c x (suc o) e = slot_kept l c x o e

pub slot_last : (l : List Name) (c : Name) → slice_get (l ++ c ∷ []) (length l) ≡ Some c
slot_last [] c = refl
slot_last (y ∷ l) c = slot_last l c

slot_none : (l : List Name) (c : Name) (o : ℕ) → slice_get (l ++ c ∷ []) o ≡ None → slice_get l o ≡ None
slot_none [] c o e = refl
slot_none (y ∷ l) c zero e = e
slot_none (y ∷ l) c (suc o) e = slot_none l c o e

-- the relatives once a child c of p0 is born at nodelet h
abbrev pub with_birth : (Name → Option Relative) → Name → Relative → ℕ → Name → ℕ → Name → Option Relative
with_birth F p0 r0 d0 c h q =
    if same_name q p0 then Some (record r0 { children = r0.children ++ (d0, c) ∷ [] })
    else (if same_name q c then Some (record { home = h; children = []; status = Live }) else F q)

abbrev pub with_ticket : (Name → Option Ticket) → Name → Ticket → Name → Option Ticket
with_ticket T c t q = if same_name q c then Some t else T q

module _ (T : Name → Option Ticket) (R : Results) (D : Returns) (F : Name → Option Relative) (kin : Kin T R D F) (p0 : Name) (r0 : Relative) (d0 : ℕ) (is : F p0 ≡ Some r0) (c : Name) (h : ℕ) (new : F c ≡ None) where
  abbrev B : Name → Option Relative
  B = with_birth F p0 r0 d0 c h

  abbrev own : Ticket
  own = ticket_at p0 r0.home d0 (length (children_at d0 r0.children))

  abbrev T' : Name → Option Ticket
  T' = with_ticket T c own

  abbrev parent : Relative
  parent = record r0 { children = r0.children ++ (d0, c) ∷ [] }

  abbrev baby : Relative
  baby = record { home = h; children = []; status = Live }

  apart : same_name c p0 ≡ false
  apart = go (same_name c p0) refl
    where
      go : (t : Bool) → same_name c p0 ≡ t → t ≡ false
      go false f = refl
      go true f = absurd (let z : None ≡ Some r0 = sym new ∙ ap F (same_name_is c p0 f) ∙ is in cc)

  known-apart : (x : Name) (y : Relative) → F x ≡ Some y → same_name x c ≡ false
  known-apart x y e = go (same_name x c) refl
    where
      go : (t : Bool) → same_name x c ≡ t → t ≡ false
      go false f = refl
      go true f = absurd (let z : None ≡ Some y = sym new ∙ ap F (sym (same_name_is x c f)) ∙ e in cc)

  at_parent : B p0 ≡ Some parent
  at_parent = ap (λ t. if t then Some parent else (if same_name p0 c then Some baby else F p0)) (same_name_refl p0)

  at_child : B c ≡ Some baby
  at_child = ap (λ t. if t then Some parent else (if same_name c c then Some baby else F c)) apart ∙ ap (λ t. if t then Some baby else F c) (same_name_refl c)

  at_other : (q : Name) → same_name q p0 ≡ false → same_name q c ≡ false → B q ≡ F q
  at_other q e f = ap (λ t. if t then Some parent else (if same_name q c then Some baby else F q)) e ∙ ap (λ t. if t then Some baby else F q) f

  -- results are as before, and the child has none
  result-known : (x : Name) (y : Relative) → F x ≡ Some y → result_by (B x) ≡ result_by (F x)
  result-known x y e = ⊎_elim
      (λ p. ap (λ q. result_by (B q)) p ∙ ap result_by at_parent ∙ sym (ap (λ q. result_by (F q)) p ∙ ap result_by is))
      (λ ne. ap result_by (at_other x ne.0 (known-apart x y e)))
      (name_cases x p0)

  ticket-known : (x : Name) (y : Relative) → F x ≡ Some y → T' x ≡ T x
  ticket-known x y e = ap (λ t. if t then Some own else T x) (known-apart x y e)

  still : (x : Name) (y : Relative) → F x ≡ Some y → (z : Relative) × (B x ≡ Some z) × (z.home ≡ y.home) × ((d o : ℕ) (n : Name) → slice_get (children_at d y.children) o ≡ Some n → slice_get (children_at d z.children) o ≡ Some n)
  still x y e = ⊎_elim
      (λ p. let same : r0 ≡ y = some_is _ _ (sym is ∙ ap F (sym p) ∙ e) in
      (parent, ap B p ∙ at_parent, ap (λ (r : Relative). r.home) same, λ d o n g. kept d o n (ap (λ (r : Relative). slice_get (children_at d r.children) o) same ∙ g)))
      (λ ne. (y, at_other x ne.0 (known-apart x y e) ∙ e, refl, λ d o n g. g))
      (name_cases x p0)
    where
      kept : (d o : ℕ) (n : Name) → slice_get (children_at d r0.children) o ≡ Some n → slice_get (children_at d parent.children) o ≡ Some n
      kept d o n g = ap (λ l. slice_get l o) (more_at d d0 c r0.children) ∙ go (d0 == d)
        where
          go : (t : Bool) → slice_get (children_at d r0.children ++ (if t then c ∷ [] else [])) o ≡ Some n
          go true = slot_kept (children_at d r0.children) c n o g
          go false = ap (λ l. slice_get l o) (append-nil (children_at d r0.children)) ∙ g

  -- what stands in a slot of the parent
  slot-parent : (d o : ℕ) (n : Name) → slice_get (children_at d parent.children) o ≡ Some n → (slice_get (children_at d r0.children) o ≡ Some n) ⊎ ((d ≡ d0) × (o ≡ length (children_at d0 r0.children)) × (n ≡ c))
  slot-parent d o n g = go (d0 == d) refl (sym (ap (λ l. slice_get l o) (more_at d d0 c r0.children)) ∙ g)
    where
      go : (t : Bool) → (d0 == d) ≡ t → slice_get (children_at d r0.children ++ (if t then c ∷ [] else [])) o ≡ Some n →
          (slice_get (children_at d r0.children) o ≡ Some n) ⊎ ((d ≡ d0) × (o ≡ length (children_at d0 r0.children)) × (n ≡ c))
      go true f e = ⊎_elim (λ k. inl k) (λ k. let same : d ≡ d0 = sym (eqb-true _ _ f) in inr (same, k.0 ∙ ap (λ i. length (children_at i r0.children)) same, k.1)) (slot_more (children_at d r0.children) c n o e)
      go false f e = inl (sym (ap (λ l. slice_get l o) (append-nil (children_at d r0.children))) ∙ e)

  given-parent : (d o : ℕ) → IsGiven (R r0.home p0 d o) (λ a. D a r0.home p0 d o) (promise B (slice_get (children_at d parent.children) o))
  given-parent d o = by (slice_get (children_at d parent.children) o) refl
    where
      none-before : (y : Option Name) → slice_get (children_at d r0.children) o ≡ y → y ≡ None → IsGiven (R r0.home p0 d o) (λ a. D a r0.home p0 d o) None
      none-before y e f = subst (λ (z : Option Name). IsGiven (R r0.home p0 d o) (λ a. D a r0.home p0 d o) (promise F z)) (e ∙ f) (kin.given p0 r0 is d o)

      gone : (d' o' : ℕ) → slice_get (children_at d' parent.children) o' ≡ None → slice_get (children_at d' r0.children) o' ≡ None
      gone d' o' e = go (d0 == d') (sym (ap (λ l. slice_get l o') (more_at d' d0 c r0.children)) ∙ e)
        where
          go : (t : Bool) → slice_get (children_at d' r0.children ++ (if t then c ∷ [] else [])) o' ≡ None → slice_get (children_at d' r0.children) o' ≡ None
          go true f = slot_none (children_at d' r0.children) c o' f
          go false f = sym (ap (λ l. slice_get l o') (append-nil (children_at d' r0.children))) ∙ f

      by : (y : Option Name) → slice_get (children_at d parent.children) o ≡ y → IsGiven (R r0.home p0 d o) (λ a. D a r0.home p0 d o) (promise B y)
      by None e = none-before (slice_get (children_at d r0.children) o) refl (gone d o e)
      by (Some n) e = ⊎_elim old fresh (slot-parent d o n e)
        where
          old : slice_get (children_at d r0.children) o ≡ Some n → IsGiven (R r0.home p0 d o) (λ a. D a r0.home p0 d o) (result_by (B n))
          old g = let k = kin.exists p0 r0 is d o n g in
              subst (λ (z : Option ℤ). IsGiven (R r0.home p0 d o) (λ a. D a r0.home p0 d o) z) (ap (promise F) g ∙ sym (result-known n k.0 k.1)) (kin.given p0 r0 is d o)

          fresh : (d ≡ d0) × (o ≡ length (children_at d0 r0.children)) × (n ≡ c) → IsGiven (R r0.home p0 d o) (λ a. D a r0.home p0 d o) (result_by (B n))
          fresh k = subst (λ (z : Option ℤ). IsGiven (R r0.home p0 d o) (λ a. D a r0.home p0 d o) z) (sym (ap (λ q. result_by (B q)) k.2 ∙ ap result_by at_child))
              (none-before (slice_get (children_at d r0.children) o) refl (slice_get_past (children_at d r0.children) o (let z : length (children_at d r0.children) ≡ o = ap (λ i. length (children_at i r0.children)) k.0 ∙ sym k.1 in omega arith)))

  -- each relative is the parent, the child, or as before
  pub data Whose (p : Name) (r : Relative) : Type 0 where
    of_parent : p ≡ p0 → r ≡ parent → Whose p r
    of_child : p ≡ c → r ≡ baby → Whose p r
    of_other : same_name p p0 ≡ false → same_name p c ≡ false → F p ≡ Some r → Whose p r

  whose : (p : Name) (r : Relative) → B p ≡ Some r → Whose p r
  whose p r e = ⊎_elim
      (λ k. of_parent k (some_is _ _ (sym e ∙ ap B k ∙ at_parent)))
      (λ ne. ⊎_elim (λ k. of_child k (some_is _ _ (sym e ∙ ap B k ∙ at_child))) (λ nc. of_other ne.0 nc.0 (sym (at_other p ne.0 nc.0) ∙ e)) (name_cases p c))
      (name_cases p p0)

  pub kin-born : Kin T' R D B
  kin-born = record {
    given = λ p r e d o. given p r (whose p r e) d o;
    elsewhere = λ p r e i ne d o. elsewhere p r (whose p r e) i ne d o;
    stranger = λ p e i d o. kin.stranger p (unknown p e) i d o;
    child = λ p r e d o n g. child p r (whose p r e) d o n g;
    exists = λ p r e d o n g. exists p r (whose p r e) d o n g;
    ticket = λ n t k e live has. ticket n t k (whose n t e) live has;
  }
    where
      unknown : (p : Name) → B p ≡ None → F p ≡ None
      unknown p e = go (F p) refl
        where
          go : (o : Option Relative) → F p ≡ o → o ≡ None
          go None f = refl
          go (Some y) f = absurd (let s = still p y f in let z : None ≡ Some s.0 = sym e ∙ s.1 in cc)

      given : (p : Name) (r : Relative) → Whose p r → (d o : ℕ) → IsGiven (R r.home p d o) (λ a. D a r.home p d o) (promise B (slice_get (children_at d r.children) o))
      given p r (of_parent k e) d o =
          subst (λ (y : Relative). IsGiven (R y.home p d o) (λ a. D a y.home p d o) (promise B (slice_get (children_at d y.children) o))) (sym e)
          (subst (λ (y : Name). IsGiven (R r0.home y d o) (λ a. D a r0.home y d o) (promise B (slice_get (children_at d parent.children) o))) (sym k) (given-parent d o))
      given p r (of_child k e) d o =
          subst (λ (y : Relative). IsGiven (R y.home p d o) (λ a. D a y.home p d o) (promise B (slice_get (children_at d y.children) o))) (sym e)
          (kin.stranger p (ap F k ∙ new) h d o)
      given p r (of_other ne nc e) d o =
          same-given (R r.home p d o) _ (λ a. D a r.home p d o) _ (promise F (slice_get (children_at d r.children) o)) _ refl (λ a. refl) (same (slice_get (children_at d r.children) o) refl) (kin.given p r e d o)
        where
          same : (y : Option Name) → slice_get (children_at d r.children) o ≡ y → promise B y ≡ promise F y
          same None g = refl
          same (Some n) g = let z = kin.exists p r e d o n g in result-known n z.0 z.1

      elsewhere : (p : Name) (r : Relative) → Whose p r → (i : ℕ) → (i == r.home) ≡ false → (d o : ℕ) → (R i p d o ≡ None) × ((a : ℕ) → D a i p d o ≡ [])
      elsewhere p r (of_parent k e) i ne d o = kin.elsewhere p r0 (ap F k ∙ is) i (ap (λ (y : Relative). i == y.home) (sym e) ∙ ne) d o
      elsewhere p r (of_child k e) i ne d o = kin.stranger p (ap F k ∙ new) i d o
      elsewhere p r (of_other np nc e) i ne d o = kin.elsewhere p r e i ne d o

      -- a child of the parent has its ticket
      child-parent : (d o : ℕ) (n : Name) → slice_get (children_at d parent.children) o ≡ Some n → T' n ≡ Some (ticket_at p0 r0.home d o)
      child-parent d o n g = ⊎_elim
          (λ old. let z = kin.exists p0 r0 is d o n old in ticket-known n z.0 z.1 ∙ kin.child p0 r0 is d o n old)
          (λ k. ap T' k.2 ∙ ap (λ t. if t then Some own else T c) (same_name_refl c) ∙ ap (λ i. Some (ticket_at p0 r0.home d0 i)) (sym k.1) ∙ ap (λ i. Some (ticket_at p0 r0.home i o)) (sym k.0))
          (slot-parent d o n g)

      child : (p : Name) (r : Relative) → Whose p r → (d o : ℕ) (n : Name) → slice_get (children_at d r.children) o ≡ Some n → T' n ≡ Some (ticket_at p r.home d o)
      child p r (of_parent k e) d o n g =
          child-parent d o n (ap (λ (y : Relative). slice_get (children_at d y.children) o) (sym e) ∙ g) ∙ ap (λ y. Some (ticket_at y r0.home d o)) (sym k) ∙ ap (λ (y : Relative). Some (ticket_at p y.home d o)) (sym e)
      child p r (of_child k e) d o n g = absurd (let z : None ≡ Some n = ap (λ (y : Relative). slice_get (children_at d y.children) o) (sym e) ∙ g in cc)
      child p r (of_other np nc e) d o n g = let z = kin.exists p r e d o n g in ticket-known n z.0 z.1 ∙ kin.child p r e d o n g

      known : (n : Name) (y : Relative) → F n ≡ Some y → (t : Relative) × (B n ≡ Some t)
      known n y e = let s = still n y e in (s.0, s.1)

      exists : (p : Name) (r : Relative) → Whose p r → (d o : ℕ) (n : Name) → slice_get (children_at d r.children) o ≡ Some n → (t : Relative) × (B n ≡ Some t)
      exists p r (of_parent k e) d o n g = ⊎_elim
          (λ old. let z = kin.exists p0 r0 is d o n old in known n z.0 z.1)
          (λ f. (baby, ap B f.2 ∙ at_child))
          (slot-parent d o n (ap (λ (y : Relative). slice_get (children_at d y.children) o) (sym e) ∙ g))
      exists p r (of_child k e) d o n g = absurd (let z : None ≡ Some n = ap (λ (y : Relative). slice_get (children_at d y.children) o) (sym e) ∙ g in cc)
      exists p r (of_other np nc e) d o n g = let z = kin.exists p r e d o n g in known n z.0 z.1

      HasPlace : Name → Ticket → Type 0
      HasPlace n k = (r : Relative) × (B k.parent ≡ Some r) × (k.home ≡ r.home) × (slice_get (children_at k.depth r.children) k.order ≡ Some n)

      moved : (n : Name) (k : Ticket) → (r : Relative) × (F k.parent ≡ Some r) × (k.home ≡ r.home) × (slice_get (children_at k.depth r.children) k.order ≡ Some n) → HasPlace n k
      moved n k z = let s = still k.parent z.0 z.1 in (s.0, s.1, z.2 ∙ sym s.2, s.3 k.depth k.order n z.3)

      ticket : (n : Name) (t : Relative) (k : Ticket) → Whose n t → t.status ≡ Live → T' n ≡ Some k → HasPlace n k
      ticket n t k (of_parent p e) live has =
          moved n k (kin.ticket n r0 k (ap F p ∙ is) (ap (λ (y : Relative). y.status) (sym e) ∙ live) (sym (ticket-known n r0 (ap F p ∙ is)) ∙ has))
      ticket n t k (of_child p e) live has =
          let mine : own ≡ k = some_is _ _ (sym (ap T' p ∙ ap (λ t. if t then Some own else T c) (same_name_refl c)) ∙ has) in
          subst (λ (y : Ticket). HasPlace n y) mine (
            parent,
            at_parent,
            refl,
            ap (λ l. slice_get l (length (children_at d0 r0.children))) (more_at d0 d0 c r0.children ∙ ap (λ t. children_at d0 r0.children ++ (if t then c ∷ [] else [])) (eq-eqb d0 d0 refl)) ∙ slot_last (children_at d0 r0.children) c ∙ ap Some (sym p),
          )
      ticket n t k (of_other np nc e) live has = moved n k (kin.ticket n t k e live (sym (ticket-known n t e) ∙ has))
