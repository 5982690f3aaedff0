-- Parents and children where a parent joins its children of one depth.
use Rattle.std.proofs.Common.{◌≡◌, ℕ, zero, suc, ◌+◌, ◌<◌, ◌≤◌, List, [], ◌∷◌, ◌++◌, length, map, filter, Option, Some, None, refl, sym, ap, ◌∙◌, subst, arith, Bool, true, false, ⊎_elim, ◌&&◌, not, ℤ, is_some}
use Rattle.std.specs.Prelude.{if◌then◌else◌, ◌==◌, slice_get}
use Rattle.std.specs.List.{list_all}
use Rattle.std.proofs.lemmas.Bool.{eqb-true, eq-eqb, cases_lt}
use Rattle.std.proofs.lemmas.Option.{slice_get_past}
use Rattle.word_ops.specs.Report.{below}
use Rattle.word_ops.specs.declared.name.Name.{Name}
use Rattle.word_ops.specs.declared.ticket.Ticket.{Ticket}
use Rattle.word_ops.specs.Naming.{same_name}
use Rattle.world_model.specs.World.{Live, children_at, value_in}
use Rattle.world_model.proofs.Names.{same_name_is}
use Rattle.core_model.proofs.Invariant.Statement.{Relative, result_by, promise, IsGiven, ticket_at, Results, Returns, Kin}
use Rattle.core_model.proofs.Actions.DueContext.{all_below}
use Rattle.core_model.proofs.Events.EndKin.{same-given}

-- ---- the children of other depths

abbrev pub without_depth : ℕ → List (ℕ × Name) → List (ℕ × Name)
without_depth d children = filter (λ child. not (child.0 == d)) children

pub none_at : (d : ℕ) (cs : List (ℕ × Name)) → children_at d (without_depth d cs) ≡ []
none_at d [] = refl
none_at d (c ∷ cs) = go (none_at d cs) (c.0 == d) refl
  where
    go : children_at d (without_depth d cs) ≡ [] → (b : Bool) → (c.0 == d) ≡ b → children_at d (if not b then c ∷ without_depth d cs else without_depth d cs) ≡ []
    go ih true f = ih
    go ih false f = ap (λ b. map (λ (child : ℕ × Name). child.1) (if b then c ∷ filter (λ child. child.0 == d) (without_depth d cs) else filter (λ child. child.0 == d) (without_depth d cs))) f ∙ ih

pub others_at : (d e : ℕ) (cs : List (ℕ × Name)) → (e == d) ≡ false → children_at e (without_depth d cs) ≡ children_at e cs
others_at d e [] ne = refl
others_at d e (c ∷ cs) ne = go (others_at d e cs ne) (c.0 == d) refl (c.0 == e) refl
  where
    go : children_at e (without_depth d cs) ≡ children_at e cs → (b : Bool) → (c.0 == d) ≡ b → (t : Bool) → (c.0 == e) ≡ t →
        children_at e (if not b then c ∷ without_depth d cs else without_depth d cs) ≡ map (λ (child : ℕ × Name). child.1) (if t then c ∷ filter (λ child. child.0 == e) cs else filter (λ child. child.0 == e) cs)
    go ih true f true g = absurd (let h : c.0 ≡ d = eqb-true _ _ f in let j : c.0 ≡ e = eqb-true _ _ g in let z : (e == d) ≡ true = eq-eqb _ _ (sym j ∙ h) in let w : true ≡ false = sym z ∙ ne in cc)
    go ih true f false g = ih
    go ih false f true g = ap (λ b. map (λ (child : ℕ × Name). child.1) (if b then c ∷ filter (λ child. child.0 == e) (without_depth d cs) else filter (λ child. child.0 == e) (without_depth d cs))) g ∙ ap (λ l. c.1 ∷ l) ih
    go ih false f false g = ap (λ b. map (λ (child : ℕ × Name). child.1) (if b then c ∷ filter (λ child. child.0 == e) (without_depth d cs) else filter (λ child. child.0 == e) (without_depth d cs))) g ∙ ih

-- ---- lists in order

abbrev from : ℕ → ℕ → List ℕ
from o zero = []
from o (suc n) = o ∷ from (suc o) n

from-last : (o n : ℕ) → from o (suc n) ≡ from o n ++ (o + n) ∷ []
from-last o zero = ap (λ k. k ∷ []) (let z : o ≡ o + 0 = omega arith in z)
from-last o (suc n) = ap (λ l. o ∷ l) (from-last (suc o) n ∙ ap (λ k. from (suc o) n ++ k ∷ []) (let z : suc o + n ≡ o + suc n = omega arith in z))

below-from : (n : ℕ) → below n ≡ from 0 n
below-from zero = refl
below-from (suc n) = ap (λ l. l ++ n ∷ []) (below-from n) ∙ ap (λ k. from 0 n ++ k ∷ []) (let z : n ≡ 0 + n = omega arith in z) ∙ sym (from-last 0 n)

map-from : {A : Type 0} (f : ℕ → ℤ) (g : A → ℤ) (o : ℕ) (l : List A) → ((i : ℕ) (x : A) → slice_get l i ≡ Some x → i < length l → f (o + i) ≡ g x) → map f (from o (length l)) ≡ map g l
map-from f g o [] h = refl
map-from f g o (x ∷ xs) h =
    let first : f o ≡ g x = ap f (let z : o ≡ o + 0 = omega arith in z) ∙ h 0 x refl (omega arith) in
    let rest : map f (from (suc o) (length xs)) ≡ map g xs = map-from f g (suc o) xs (λ i y e less. ap f (let z : suc o + i ≡ o + suc i = omega arith in z) ∙ h (suc i) y e (omega arith)) in
    ap (λ y. y ∷ map f (from (suc o) (length xs))) first ∙ ap (λ l. g x ∷ l) rest

pub map-places : {A : Type 0} (f : ℕ → ℤ) (g : A → ℤ) (l : List A) → ((i : ℕ) (x : A) → slice_get l i ≡ Some x → i < length l → f i ≡ g x) → map f (below (length l)) ≡ map g l
map-places f g l h = ap (map f) (below-from (length l)) ∙ map-from f g 0 l (λ i x e less. ap f (let z : 0 + i ≡ i = omega arith in z) ∙ h i x e less)

both_true : (a b : Bool) → (a && b) ≡ true → (a ≡ true) × (b ≡ true)
both_true true b e = (refl, e)
both_true false b e = absurd cc

some_is : {A : Type 0} (x y : A) → Some x ≡ Some y → x ≡ y
some_is x y h = cc

abbrev pub with_joined : (Name → Option Relative) → Name → Relative → ℕ → Name → Option Relative
with_joined F p r d q = if same_name q p then Some (record r { children = without_depth d r.children }) else F q

module _ (T : Name → Option Ticket) (R R' : Results) (D : Returns) (F : Name → Option Relative) (kin : Kin T R D F) (p0 : Name) (r0 : Relative) (d0 : ℕ) (is : F p0 ≡ Some r0)
    (all : list_all (λ o. is_some (R r0.home p0 d0 o)) (below (length (children_at d0 r0.children))) ≡ true) where
  abbrev J : Name → Option Relative
  J = with_joined F p0 r0 d0

  record Had (p : Name) (r : Relative) : Type 0 where
    pub old : Relative
    pub was : F p ≡ Some old
    pub home : r.home ≡ old.home
    pub status : r.status ≡ old.status
    pub at : (d : ℕ) → (same_name p p0 && d == d0) ≡ false → children_at d r.children ≡ children_at d old.children
    pub gone : (d : ℕ) → (same_name p p0 && d == d0) ≡ true → children_at d r.children ≡ []

  had : (p : Name) (r : Relative) → J p ≡ Some r → Had p r
  had p r h = go (same_name p p0) refl
    where
      go : (b : Bool) → same_name p p0 ≡ b → Had p r
      go true f =
          let e : record r0 { children = without_depth d0 r0.children } ≡ r = some_is _ _ (sym (ap (λ b. if b then Some (record r0 { children = without_depth d0 r0.children }) else F p) f) ∙ h) in
          record {
            old = r0;
            was = ap F (same_name_is p p0 f) ∙ is;
            home = ap (λ (y : Relative). y.home) (sym e);
            status = ap (λ (y : Relative). y.status) (sym e);
            at = λ d g. ap (λ (y : Relative). children_at d y.children) (sym e) ∙ others_at d0 d r0.children (sym (ap (λ b. b && d == d0) f) ∙ g);
            gone = λ d g. ap (λ (y : Relative). children_at d y.children) (sym e) ∙ ap (λ c. children_at c (without_depth d0 r0.children)) (eqb-true d d0 (both_true _ _ g).1) ∙ none_at d0 r0.children;
          }
      go false f = record {
        old = r;
        was = sym (ap (λ b. if b then Some (record r0 { children = without_depth d0 r0.children }) else F p) f) ∙ h;
        home = refl;
        status = refl;
        at = λ d g. refl;
        gone = λ d g. absurd (let z : false ≡ true = sym (ap (λ b. b && d == d0) f) ∙ g in cc);
      }

  has : (p : Name) (y : Relative) → F p ≡ Some y → (z : Relative) × (J p ≡ Some z) × (z.home ≡ y.home) × ((d : ℕ) → (same_name p p0 && d == d0) ≡ false → children_at d z.children ≡ children_at d y.children)
  has p y h = go (same_name p p0) refl
    where
      go : (b : Bool) → same_name p p0 ≡ b → (z : Relative) × (J p ≡ Some z) × (z.home ≡ y.home) × ((d : ℕ) → (same_name p p0 && d == d0) ≡ false → children_at d z.children ≡ children_at d y.children)
      go true f =
          let e : r0 ≡ y = some_is r0 y (sym is ∙ ap F (sym (same_name_is p p0 f)) ∙ h) in (
            record r0 { children = without_depth d0 r0.children },
            ap (λ b. if b then Some (record r0 { children = without_depth d0 r0.children }) else F p) f,
            ap (λ (r : Relative). r.home) e,
            λ d g. others_at d0 d r0.children (sym (ap (λ b. b && d == d0) f) ∙ g) ∙ ap (λ (r : Relative). children_at d r.children) e,
          )
      go false f = (y, ap (λ b. if b then Some (record r0 { children = without_depth d0 r0.children }) else F p) f ∙ h, refl, λ d g. refl)

  pub promise-joined : (o : Option Name) → promise J o ≡ promise F o
  promise-joined None = refl
  promise-joined (Some c) = go (same_name c p0) refl
    where
      go : (b : Bool) → same_name c p0 ≡ b → result_by (J c) ≡ result_by (F c)
      go true f = ap (λ b. result_by (if b then Some (record r0 { children = without_depth d0 r0.children }) else F c)) f ∙ sym (ap result_by (ap F (same_name_is c p0 f) ∙ is))
      go false f = ap (λ b. result_by (if b then Some (record r0 { children = without_depth d0 r0.children }) else F c)) f

  no_none : {A : Type 0} (y : Option ℤ) → is_some y ≡ true → y ≡ None → A
  no_none y f g = absurd (let z : true ≡ false = sym f ∙ ap is_some g in cc)

  inside : (l : List Name) (o : ℕ) (c : Name) → slice_get l o ≡ Some c → o < length l
  inside l o c g = ⊎_elim (λ lt. lt) (λ le. absurd (let z : None ≡ Some c = sym (slice_get_past l o le) ∙ g in cc)) (cases_lt o (length l))

  recorded : (o : ℕ) (c : Name) → slice_get (children_at d0 r0.children) o ≡ Some c → is_some (R r0.home p0 d0 o) ≡ true
  recorded o c g = all_below (λ i. is_some (R r0.home p0 d0 i)) _ o all (inside (children_at d0 r0.children) o c g)

  -- what is kept of a child that is joined is its value
  pub kept_value : (o : ℕ) (c : Name) → slice_get (children_at d0 r0.children) o ≡ Some c → R r0.home p0 d0 o ≡ result_by (F c)
  kept_value o c g = by (result_by (F c)) (subst (λ (y : Option Name). IsGiven (R r0.home p0 d0 o) (λ a. D a r0.home p0 d0 o) (promise F y)) g (kin.given p0 r0 is d0 o))
    where
      by : (y : Option ℤ) → IsGiven (R r0.home p0 d0 o) (λ a. D a r0.home p0 d0 o) y → R r0.home p0 d0 o ≡ y
      by None h = h.0
      by (Some v) h = ⊎_elim (λ z. z.0) (λ z. no_none (R r0.home p0 d0 o) (recorded o c g) z.0) h

  has_result : (o : ℕ) (c : Name) → slice_get (children_at d0 r0.children) o ≡ Some c → is_some (result_by (F c)) ≡ true
  has_result o c g = ap is_some (sym (kept_value o c g)) ∙ recorded o c g

  no_packets : (o : ℕ) (a : ℕ) → D a r0.home p0 d0 o ≡ []
  no_packets o a = slot (slice_get (children_at d0 r0.children) o) refl
    where
      by : (y : Option ℤ) → is_some (R r0.home p0 d0 o) ≡ true → IsGiven (R r0.home p0 d0 o) (λ b. D b r0.home p0 d0 o) y → D a r0.home p0 d0 o ≡ []
      by None f h = h.1 a
      by (Some v) f h = ⊎_elim (λ z. z.1 a) (λ z. no_none (R r0.home p0 d0 o) f z.0) h

      slot : (y : Option Name) → slice_get (children_at d0 r0.children) o ≡ y → D a r0.home p0 d0 o ≡ []
      slot None f = (subst (λ (y : Option Name). IsGiven (R r0.home p0 d0 o) (λ b. D b r0.home p0 d0 o) (promise F y)) f (kin.given p0 r0 is d0 o)).1 a
      slot (Some c) f = by (promise F (slice_get (children_at d0 r0.children) o)) (recorded o c f) (kin.given p0 r0 is d0 o)

  -- nothing is kept beyond the children
  pub none_beyond : (j o : ℕ) → length (children_at d0 r0.children) ≤ o → R j p0 d0 o ≡ None
  none_beyond j o le = go (j == r0.home) refl
    where
      go : (b : Bool) → (j == r0.home) ≡ b → R j p0 d0 o ≡ None
      go true f = ap (λ i. R i p0 d0 o) (eqb-true _ _ f)
          ∙ (subst (λ (y : Option Name). IsGiven (R r0.home p0 d0 o) (λ b. D b r0.home p0 d0 o) (promise F y)) (slice_get_past (children_at d0 r0.children) o le) (kin.given p0 r0 is d0 o)).0
      go false f = (kin.elsewhere p0 r0 is j f d0 o).0

  pub kin-joined : ((j : ℕ) (p : Name) (d o : ℕ) → (same_name p p0 && d == d0) ≡ false → R' j p d o ≡ R j p d o) → ((j o : ℕ) → R' j p0 d0 o ≡ None) → Kin T R' D J
  kin-joined kept cleared = record {
    given = λ p r h d o. given p r (had p r h) d o (same_name p p0 && d == d0) refl;
    elsewhere = λ p r h i ne d o. let w = had p r h in let z = kin.elsewhere p w.old w.was i (ap (λ k. i == k) (sym w.home) ∙ ne) d o in (still_none i p d o z.0 (same_name p p0 && d == d0) refl, z.1);
    stranger = λ p h i d o. let z = kin.stranger p (unknown p h) i d o in (still_none i p d o z.0 (same_name p p0 && d == d0) refl, z.1);
    child = λ p r h d o c g. let w = had p r h in kin.child p w.old w.was d o c (old_slot p r w d o c g (same_name p p0 && d == d0) refl) ∙ ap (λ y. Some (ticket_at p y d o)) (sym w.home);
    exists = λ p r h d o c g. let w = had p r h in let z = kin.exists p w.old w.was d o c (old_slot p r w d o c g (same_name p p0 && d == d0) refl) in let y = has c z.0 z.1 in (y.0, y.1);
    ticket = λ c t k h live tx. let w = had c t h in ticket c k w.old w.was (sym w.status ∙ live) (kin.ticket c w.old k w.was (sym w.status ∙ live) tx) (same_name k.parent p0 && k.depth == d0) refl;
  }
    where
      still_none : (i : ℕ) (p : Name) (d o : ℕ) → R i p d o ≡ None → (b : Bool) → (same_name p p0 && d == d0) ≡ b → R' i p d o ≡ None
      still_none i p d o z true f =
          ap (λ y. R' i y d o) (same_name_is p p0 (both_true _ _ f).0) ∙ ap (λ y. R' i p0 y o) (eqb-true d d0 (both_true _ _ f).1) ∙ cleared i o
      still_none i p d o z false f = kept i p d o f ∙ z

      unknown : (p : Name) → J p ≡ None → F p ≡ None
      unknown p h = go (F p) refl
        where
          go : (o : Option Relative) → F p ≡ o → o ≡ None
          go None e = refl
          go (Some r) e = absurd (let n = has p r e in let z : None ≡ Some n.0 = sym h ∙ n.1 in cc)

      old_slot : (p : Name) (r : Relative) (w : Had p r) (d o : ℕ) (c : Name) → slice_get (children_at d r.children) o ≡ Some c → (b : Bool) → (same_name p p0 && d == d0) ≡ b → slice_get (children_at d (w.old).children) o ≡ Some c
      old_slot p r w d o c g true f = absurd (let z : None ≡ Some c = sym (ap (λ l. slice_get l o) (w.gone d f)) ∙ g in cc)
      old_slot p r w d o c g false f = ap (λ l. slice_get l o) (sym (w.at d f)) ∙ g

      given : (p : Name) (r : Relative) → Had p r → (d o : ℕ) (b : Bool) → (same_name p p0 && d == d0) ≡ b → IsGiven (R' r.home p d o) (λ a. D a r.home p d o) (promise J (slice_get (children_at d r.children) o))
      given p r w d o true f =
          let pp : p ≡ p0 = same_name_is p p0 (both_true _ _ f).0 in
          let dd : d ≡ d0 = eqb-true d d0 (both_true _ _ f).1 in
          let home : (w.old).home ≡ r0.home = ap (λ (y : Relative). y.home) (some_is w.old r0 (sym w.was ∙ ap F pp ∙ is)) in
          same-given None _ (λ a. []) _ None _ (ap (λ y. R' r.home y d o) pp ∙ ap (λ y. R' r.home p0 y o) dd ∙ cleared r.home o)
          (λ a. ap (λ y. D a y p d o) (w.home ∙ home) ∙ ap (λ y. D a r0.home y d o) pp ∙ ap (λ y. D a r0.home p0 y o) dd ∙ no_packets o a)
          (ap (λ l. promise J (slice_get l o)) (w.gone d f)) (refl, λ a. refl)
      given p r w d o false f =
          same-given (R (w.old).home p d o) _ (λ a. D a (w.old).home p d o) _ (promise F (slice_get (children_at d (w.old).children) o)) _
          (kept r.home p d o f ∙ ap (λ y. R y p d o) w.home) (λ a. ap (λ y. D a y p d o) w.home)
          (promise-joined _ ∙ ap (λ l. promise F (slice_get l o)) (w.at d f)) (kin.given p w.old w.was d o)

      ticket : (c : Name) (k : Ticket) (t : Relative) → F c ≡ Some t → t.status ≡ Live → (r : Relative) × (F k.parent ≡ Some r) × (k.home ≡ r.home) × (slice_get (children_at k.depth r.children) k.order ≡ Some c) →
          (b : Bool) → (same_name k.parent p0 && k.depth == d0) ≡ b → (r : Relative) × (J k.parent ≡ Some r) × (k.home ≡ r.home) × (slice_get (children_at k.depth r.children) k.order ≡ Some c)
      ticket c k t h live g true f =
          let pp : k.parent ≡ p0 = same_name_is k.parent p0 (both_true _ _ f).0 in
          let dd : k.depth ≡ d0 = eqb-true k.depth d0 (both_true _ _ f).1 in
          let rr : g.0 ≡ r0 = some_is g.0 r0 (sym g.1 ∙ ap F pp ∙ is) in
          let slot : slice_get (children_at d0 r0.children) k.order ≡ Some c =
          ap (λ y. slice_get (children_at y r0.children) k.order) (sym dd) ∙ ap (λ (y : Relative). slice_get (children_at k.depth y.children) k.order) (sym rr) ∙ g.3 in
          no_none (result_by (F c)) (has_result k.order c slot) (ap result_by h ∙ ap value_in live)
      ticket c k t h live g false f = let y = has k.parent g.0 g.1 in (y.0, y.1, g.2 ∙ sym y.2, ap (λ l. slice_get l k.order) (y.3 k.depth f) ∙ g.3)
