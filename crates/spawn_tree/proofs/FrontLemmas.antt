-- Fronts while results come and go.
use Rattle.std.proofs.Common.{◌≡◌, ◌≢◌, ℕ, ◌<◌, ◌≤◌, ◌+◌, ◌-◌, ◌^◌, ◌⊎◌, inl, inr, Option, Some, None, IsSome, Bool, true, false, ◌&&◌, ◌==◌, arith, sym, ◌∙◌, ap, subst, refl}
use Rattle.std.specs.Prelude.{ℤ, if◌then◌else◌}
use Rattle.std.specs.BTreeMap.{BTreeMap}
use Rattle.std.proofs.lemmas.Bool.Decides.{eqb_tells}
use Rattle.word_ops.specs.Naming.{same_name}
use Rattle.word_ops.specs.declared.name.Name.{Name}
use Rattle.word_ops.specs.declared.ticket.Ticket.{Ticket}
use Rattle.spawn_tree.specs.declared.Activation.{Activation}
use Rattle.spawn_tree.specs.declared.Child.{Child}
use Rattle.spawn_tree.specs.code.Fronts.{IsFront, AreFronts, front_at}
use Rattle.spawn_tree.specs.code.Records.{result_in, is_child_of, SameIn, AddsOne}

-- what came besides leaves a front, where the front itself is as it was
pub front_stays : (old new : ℕ → Option ℤ) (low front : ℕ)
    → ((order : ℕ) → IsSome (old order) → IsSome (new order)) → new front ≡ old front
    → IsFront old low front → IsFront new low front
front_stays old new low front more same f = record {
  behind = f.behind;
  passed = λ order l h. more order (f.passed order l h);
  missing = λ h. same ∙ f.missing h;
}

-- results that agree from the low one on have one front
pub front_of_same : (old new : ℕ → Option ℤ) (low front : ℕ) → ((order : ℕ) → low ≤ order → new order ≡ old order)
    → IsFront old low front → IsFront new low front
front_of_same old new low front same f = record {
  behind = f.behind;
  passed = λ order l h. let P : Option ℤ → Type 0 = λ o. IsSome o in subst P (sym (same order l)) (f.passed order l h);
  missing = λ h. same front f.behind ∙ f.missing h;
}

-- a front goes on behind the result that came there
pub front_goes_on : (result : ℕ → Option ℤ) (low front next : ℕ) → IsFront result (front + 1) next → low ≤ front
    → ((order : ℕ) → low ≤ order → order < front → IsSome (result order)) → IsSome (result front) → IsFront result low next
front_goes_on result low front next f behind passed here = record {
  behind = let b = f.behind in omega arith;
  passed = λ order l h. here_or order l h (eqb_tells order front);
  missing = f.missing;
}
  where
    after_or : (order : ℕ) → low ≤ order → order < next → order ≢ front → (order < front) ⊎ (front < order) → IsSome (result order)
    after_or order l h ne (inl before) = passed order l before
    after_or order l h ne (inr after) = f.passed order (omega arith) h

    sides : (a b : ℕ) → a ≢ b → (a < b) ⊎ (b < a)
    sides a b ne = grind arith

    here_or : (order : ℕ) → low ≤ order → order < next → (((order == front) ≡ true) × (order ≡ front)) ⊎ (((order == front) ≡ false) × (order ≢ front)) → IsSome (result order)
    here_or order l h (inl at) = let P : ℕ → Type 0 = λ o. IsSome (result o) in subst P (sym at.1) here
    here_or order l h (inr other) = after_or order l h other.1 (sides order front other.1)

-- both of two tests hold where their conjunction does
both : (a b : Bool) → (a && b) ≡ true → (a ≡ true) × (b ≡ true)
both true b e = (refl, e)
both false b e = absurd (let z : false ≡ true = e in cc)

-- a test of equal numbers
equal : (a b : ℕ) → (a == b) ≡ true → a ≡ b
equal a b e = from (eqb_tells a b)
  where
    from : (((a == b) ≡ true) × (a ≡ b)) ⊎ (((a == b) ≡ false) × (a ≢ b)) → a ≡ b
    from (inl t) = t.1
    from (inr f) = absurd (let z : false ≡ true = sym f.0 ∙ e in cc)

-- names that the test takes for the same are equal
equal_names : (a b : Name) → same_name a b ≡ true → a ≡ b
equal_names a b e =
    let s = both (a.nodelet == b.nodelet) (a.number == b.number) e in
    named a.nodelet b.nodelet a.number b.number (equal _ _ s.0) (equal _ _ s.1)
  where
    named : (i j x y : ℕ) → i ≡ j → x ≡ y
        → (let p : Name = record { nodelet = i; number = x } in p) ≡ (let q : Name = record { nodelet = j; number = y } in q)
    named i j x y p q = ap (λ n. record { nodelet = n; number = x }) p ∙ ap (λ m. record { nodelet = j; number = m }) q

-- the child with a ticket is where the ticket says
pub record IsAt (t : Ticket) (parent : Name) (depth order : ℕ) : Type 0 where
  pub parents : parent ≡ t.parent
  pub depths : depth ≡ t.depth
  pub orders : order ≡ t.order

pub child_at : (t : Ticket) (parent : Name) (depth order : ℕ) → is_child_of t parent depth order ≡ true → IsAt t parent depth order
child_at t parent depth order e =
    let s = both (same_name parent t.parent && depth == t.depth) (order == t.order) e in
    let u = both (same_name parent t.parent) (depth == t.depth) s.0 in
    record { parents = equal_names _ _ u.0; depths = equal _ _ u.1; orders = equal _ _ s.1 }

-- the fronts of two maps of fronts that agree, over results that agree
pub fronts_of_same : (results later : BTreeMap Child ℤ) (fronts after : BTreeMap Activation ℕ)
    → AreFronts results fronts → SameIn (result_in results) (result_in later) → ((p : Name) (d : ℕ) → front_at after p d ≡ front_at fronts p d)
    → AreFronts later after
fronts_of_same results later fronts after known same fronts_same p d =
    let P : ℕ → Type 0 = λ front. IsFront (result_in later p d) 8 front in
    subst P (sym (fronts_same p d)) (front_of_same (result_in results p d) (result_in later p d) 8 (front_at fronts p d) (λ order _. same p d order) (known p d))

-- a choice where one of two tests fails
first_fails : (a b : Bool) (x y : Option ℤ) → a ≡ false → (if a && b then x else y) ≡ y
first_fails true b x y e = absurd (let z : true ≡ false = e in cc)
first_fails false b x y e = refl

second_fails : (a b : Bool) (x y : Option ℤ) → b ≡ false → (if a && b then x else y) ≡ y
second_fails true true x y e = absurd (let z : true ≡ false = e in cc)
second_fails true false x y e = refl
second_fails false b x y e = refl

-- a choice of two results is one where both are
chosen : (b : Bool) (value : ℤ) (x : Option ℤ) → IsSome x → IsSome (if b then Some value else x)
chosen true value x s = refl
chosen false value x s = s

-- numbers that differ fail the test
differs : (a b : ℕ) → a ≢ b → (a == b) ≡ false
differs a b ne = from (eqb_tells a b)
  where
    from : (((a == b) ≡ true) × (a ≡ b)) ⊎ (((a == b) ≡ false) × (a ≢ b)) → (a == b) ≡ false
    from (inl t) = absurd (ne t.1)
    from (inr f) = f.0

-- a number is equal to itself
equal_to : (a : ℕ) → (a == a) ≡ true
equal_to a = from (eqb_tells a a)
  where
    from : (((a == a) ≡ true) × (a ≡ a)) ⊎ (((a == a) ≡ false) × (a ≢ a)) → (a == a) ≡ true
    from (inl t) = t.0
    from (inr f) = absurd (f.1 refl)

-- a ticket is that of its child
own_child : (t : Ticket) → is_child_of t t.parent t.depth t.order ≡ true
own_child t = rw (equal_to t.parent.nodelet, equal_to t.parent.number, equal_to t.depth, equal_to t.order) refl

-- the front of one activation goes on to the next result that is missing when the one at the front comes
own_goes_on : (old new : ℕ → Option ℤ) (front next : ℕ) → IsFront old 8 front
    → (front ≢ 2 ^ 64 - 1 → IsFront old (front + 1) next) → (front ≡ 2 ^ 64 - 1 → next ≡ front)
    → ((order : ℕ) → order ≢ front → new order ≡ old order) → IsSome (new front) → ((order : ℕ) → IsSome (old order) → IsSome (new order))
    → IsFront new 8 next
own_goes_on old new front next known low last others here more = from (eqb_tells front (2 ^ 64 - 1))
  where
    kept : (order : ℕ) → 8 ≤ order → order < front → IsSome (new order)
    kept order l h = more order (known.passed order l h)

    at_last : next ≡ front → front ≡ 2 ^ 64 - 1 → IsFront new 8 next
    at_last n f = record {
      behind = let b = known.behind in omega arith;
      passed = λ order l h. kept order l (omega arith);
      missing = λ h. absurd (omega arith);
    }

    below : front ≢ 2 ^ 64 - 1 → IsFront new 8 next
    below ne = front_goes_on new 8 front next (front_of_same old new (front + 1) next (λ order l. others order (omega arith)) (low ne)) known.behind kept here

    from : (((front == (2 ^ 64 - 1)) ≡ true) × (front ≡ 2 ^ 64 - 1)) ⊎ (((front == (2 ^ 64 - 1)) ≡ false) × (front ≢ 2 ^ 64 - 1)) → IsFront new 8 next
    from (inl at) = at_last (last at.1) at.1
    from (inr other) = below other.1

-- all fronts after the result at the front of an activation came
pub fronts_go_on : (results later : BTreeMap Child ℤ) (fronts after : BTreeMap Activation ℕ) (t : Ticket) (value : ℤ) (next : ℕ)
    → AreFronts results fronts → AddsOne (result_in results) t value (result_in later) → t.order ≡ front_at fronts t.parent t.depth
    → (t.order ≢ 2 ^ 64 - 1 → IsFront (result_in results t.parent t.depth) (t.order + 1) next) → (t.order ≡ 2 ^ 64 - 1 → next ≡ t.order)
    → ((p : Name) (d : ℕ) → front_at after p d ≡ (if same_name p t.parent && d == t.depth then next else front_at fronts p d))
    → AreFronts later after
fronts_go_on results later fronts after t value next known added front low last written p d =
    let P : ℕ → Type 0 = λ f. IsFront (result_in later p d) 8 f in
    subst P (sym (written p d)) (at (same_name p t.parent && d == t.depth) refl)
  where
    kept : IsFront (result_in results t.parent t.depth) 8 t.order
    kept = let P : ℕ → Type 0 = λ f. IsFront (result_in results t.parent t.depth) 8 f in subst P (sym front) (known t.parent t.depth)

    more : (order : ℕ) → IsSome (result_in results t.parent t.depth order) → IsSome (result_in later t.parent t.depth order)
    more order s = let P : Option ℤ → Type 0 = λ o. IsSome o in subst P (sym (added t.parent t.depth order)) (chosen (is_child_of t t.parent t.depth order) value _ s)

    here : IsSome (result_in later t.parent t.depth t.order)
    here = let P : Option ℤ → Type 0 = λ o. IsSome o in let e = own_child t in subst P (sym (added t.parent t.depth t.order)) (rw e refl)

    own : IsFront (result_in later t.parent t.depth) 8 next
    own = own_goes_on (result_in results t.parent t.depth) (result_in later t.parent t.depth) t.order next kept low last
        (λ order ne. added t.parent t.depth order ∙ second_fails (same_name t.parent t.parent && t.depth == t.depth) (order == t.order) (Some value) _ (differs order t.order ne)) here more

    at : (b : Bool) → (same_name p t.parent && d == t.depth) ≡ b → IsFront (result_in later p d) 8 (if b then next else front_at fronts p d)
    at true e =
        let s = both (same_name p t.parent) (d == t.depth) e in
        let P : Name → Type 0 = λ q. IsFront (result_in later q d) 8 next in
        let Q : ℕ → Type 0 = λ k. IsFront (result_in later t.parent k) 8 next in
        subst P (sym (equal_names _ _ s.0)) (subst Q (sym (equal _ _ s.1)) own)
    at false e = front_of_same (result_in results p d) (result_in later p d) 8 _ (λ order _. added p d order ∙ first_fails _ (order == t.order) (Some value) _ e) (known p d)
