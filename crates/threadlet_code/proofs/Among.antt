-- What is among the items of a list.
use Rattle.std.proofs.Common.{◌≡◌, ℕ, zero, suc, ◌+◌, ◌<◌, ◌≤◌, ◌⊎◌, inl, inr, List, [], ◌∷◌, ◌++◌, refl, sym, ap, ◌∙◌, subst, arith, Bool, true, false, cond, ◌||◌, ⊎_elim, Some, None}
use Rattle.std.proofs.lemmas.Bool.{cases_lt}
use Rattle.std.proofs.lemmas.Option.{same_Some}
use Rattle.std.specs.Prelude.{filter, flat_map, map, take, slice_get}
use Rattle.std.specs.List.{list_any, range_with_len}
use Rattle.threadlet_code.specs.Sound.{OfEach}

-- x is an item of a list.
abbrev pub Among : {X : Type 0} → X → List X → Type 0
Among x [] = ⊥
Among x (y ∷ ys) = (x ≡ y) ⊎ Among x ys

pub among_left : {X : Type 0} (x : X) (xs ys : List X) → Among x xs → Among x (xs ++ ys)
among_left x [] ys a = absurd a
among_left x (y ∷ xs) ys (inl e) = inl e
among_left x (y ∷ xs) ys (inr a) = inr (among_left x xs ys a)

pub among_right : {X : Type 0} (x : X) (xs ys : List X) → Among x ys → Among x (xs ++ ys)
among_right x [] ys a = a
among_right x (y ∷ xs) ys a = inr (among_right x xs ys a)

pub among_append : {X : Type 0} (x : X) (xs ys : List X) → Among x (xs ++ ys) → Among x xs ⊎ Among x ys
among_append x [] ys a = inr a
among_append x (y ∷ xs) ys (inl e) = inl (inl e)
among_append x (y ∷ xs) ys (inr a) = ⊎_elim (λ l. inl (inr l)) (λ r. inr r) (among_append x xs ys a)

pub of_each : (P : ℕ → Type 0) (ns : List ℕ) (n : ℕ) → OfEach P ns → Among n ns → P n
of_each P [] n all a = absurd a
of_each P (m ∷ ns) n all (inl e) = subst P (sym e) all.0
of_each P (m ∷ ns) n all (inr a) = of_each P ns n all.1 a

-- The number from a on, under a + n, at whose list x stands.
pub record InPart {X : Type 0} (f : ℕ → List X) (x : X) (a n : ℕ) : Type 0 where
  pub part : ℕ
  pub from : a ≤ part
  pub under : part < a + n
  pub here : Among x (f part)

pub among_parts : {X : Type 0} (f : ℕ → List X) (x : X) (a n : ℕ) → Among x (flat_map f (range_with_len a n)) → InPart f x a n
among_parts f x a zero h = absurd h
among_parts f x a (suc n) h =
    ⊎_elim
    (λ l. record { part = a; from = omega arith; under = omega arith; here = l })
    (λ r. let p = among_parts f x (a + 1) n r in record { part = p.part; from = omega (arith, p.from); under = omega (arith, p.under); here = p.here })
    (among_append x (f a) (flat_map f (range_with_len (a + 1) n)) h)

pub among_part : {X : Type 0} (f : ℕ → List X) (x : X) (a n i : ℕ) → a ≤ i → i < a + n → Among x (f i) → Among x (flat_map f (range_with_len a n))
among_part f x a zero i le lt h = absurd (omega arith)
among_part f x a (suc n) i le lt h =
    ⊎_elim
    (λ above. among_right x (f a) (flat_map f (range_with_len (a + 1) n)) (among_part f x (a + 1) n i (omega arith) (omega arith) h))
    (λ same. among_left x (f a) (flat_map f (range_with_len (a + 1) n)) (let e : i ≡ a = omega arith in subst (λ j. Among x (f j)) e h))
    (cases_lt a i)

-- ---- tests on lists

pub any_among : {X : Type 0} (p : X → Bool) (xs : List X) → list_any p xs ≡ true → (x : X) × Among x xs × (p x ≡ true)
any_among p [] e = absurd (let wrong : false ≡ true = e in cc)
any_among p (y ∷ xs) e = by_first (λ rest. any_among p xs rest) (p y) refl
  where
    by_first : (list_any p xs ≡ true → (x : _) × Among x xs × (p x ≡ true)) → (b : Bool) → p y ≡ b → (x : _) × Among x (y ∷ xs) × (p x ≡ true)
    by_first more true is = (y, inl refl, is)
    by_first more false is = let r = more (ap (λ b. b || list_any p xs) (sym is) ∙ e) in (r.0, inr r.1, r.2)

pub among_any : {X : Type 0} (p : X → Bool) (x : X) (xs : List X) → Among x xs → p x ≡ true → list_any p xs ≡ true
among_any p x [] a e = absurd a
among_any p x (y ∷ xs) (inl same) e = ap (λ b. b || list_any p xs) (ap p (sym same) ∙ e)
among_any p x (y ∷ xs) (inr a) e = by_first (among_any p x xs a e) (p y)
  where
    by_first : list_any p xs ≡ true → (b : Bool) → (b || list_any p xs) ≡ true
    by_first more true = refl
    by_first more false = more

pub none_among : {X : Type 0} (p : X → Bool) (xs : List X) → ((x : X) → Among x xs → p x ≡ false) → list_any p xs ≡ false
none_among p [] each = refl
none_among p (y ∷ xs) each =
    ap (λ b. b || list_any p xs) (each y (inl refl)) ∙ none_among p xs (λ x a. each x (inr a))

-- ---- lists made of lists

pub among_map : {X Y : Type 0} (f : X → Y) (x : X) (xs : List X) → Among x xs → Among (f x) (map f xs)
among_map f x [] a = absurd a
among_map f x (y ∷ xs) (inl e) = inl (ap f e)
among_map f x (y ∷ xs) (inr a) = inr (among_map f x xs a)

pub among_filter : {X : Type 0} (p : X → Bool) (x : X) (xs : List X) → Among x xs → p x ≡ true → Among x (filter p xs)
among_filter p x [] a e = absurd a
among_filter p x (y ∷ xs) (inl same) e =
    subst (λ b. Among x (cond b (y ∷ filter p xs) (filter p xs))) (sym (ap p (sym same) ∙ e)) (inl same)
among_filter p x (y ∷ xs) (inr a) e = by_first (among_filter p x xs a e) (p y)
  where
    by_first : Among x (filter p xs) → (b : Bool) → Among x (cond b (y ∷ filter p xs) (filter p xs))
    by_first more true = inr more
    by_first more false = more

-- ---- lists that are empty

pub filter_none : {X : Type 0} (p : X → Bool) (xs : List X) → ((x : X) → p x ≡ false) → filter p xs ≡ []
filter_none p [] none = refl
filter_none p (x ∷ xs) none = ap (λ b. cond b (x ∷ filter p xs) (filter p xs)) (none x) ∙ filter_none p xs none

pub flat_map_none : {X : Type 0} (f : ℕ → List X) (a n : ℕ) → ((i : ℕ) → a ≤ i → i < a + n → f i ≡ []) → flat_map f (range_with_len a n) ≡ []
flat_map_none f a zero none = refl
flat_map_none f a (suc n) none =
    ap (λ l. l ++ flat_map f (range_with_len (a + 1) n)) (none a (omega arith) (omega arith))
    ∙ flat_map_none f (a + 1) n (λ i le lt. none i (omega arith) (omega arith))

-- ---- the first item that passes

dropped : {X : Type 0} (b : Bool) (x : X) (xs : List X) → cond b (x ∷ xs) xs ≡ [] → (b ≡ false) × (xs ≡ [])
dropped true x xs e = absurd (let wrong : x ∷ xs ≡ [] = e in cc)
dropped false x xs e = (refl, e)

pub filter_more : {X : Type 0} (p : X → Bool) (xs : List X) (i : ℕ) (x : X) → slice_get xs i ≡ Some x → filter p (take i xs) ≡ [] → p x ≡ false → filter p (take (suc i) xs) ≡ []
filter_more p [] i x at none e = absurd (let wrong : None ≡ Some x = at in cc)
filter_more p (y ∷ xs) zero x at none e = ap (λ b. cond b (y ∷ []) []) (ap p (same_Some y x at) ∙ e)
filter_more p (y ∷ xs) (suc i) x at none e =
    let d = dropped (p y) y (filter p (take i xs)) none in
    ap (λ b. cond b (y ∷ filter p (take (suc i) xs)) (filter p (take (suc i) xs))) d.0 ∙ filter_more p xs i x at d.1 e

pub filter_first : {X : Type 0} (p : X → Bool) (xs : List X) (i : ℕ) (x : X) → slice_get xs i ≡ Some x → filter p (take i xs) ≡ [] → p x ≡ true → slice_get (filter p xs) 0 ≡ Some x
filter_first p [] i x at none e = absurd (let wrong : None ≡ Some x = at in cc)
filter_first p (y ∷ xs) zero x at none e =
    ap (λ b. slice_get (cond b (y ∷ filter p xs) (filter p xs)) 0) (ap p (same_Some y x at) ∙ e) ∙ at
filter_first p (y ∷ xs) (suc i) x at none e =
    let d = dropped (p y) y (filter p (take i xs)) none in
    ap (λ b. slice_get (cond b (y ∷ filter p xs) (filter p xs)) 0) d.0 ∙ filter_first p xs i x at d.1 e

-- ---- lists of lists, part by part

empty_left : {X : Type 0} (xs ys : List X) → xs ++ ys ≡ [] → (xs ≡ []) × (ys ≡ [])
empty_left [] ys e = (refl, e)
empty_left (x ∷ xs) ys e = absurd (let wrong : x ∷ (xs ++ ys) ≡ [] = e in cc)

pub first_left : {X : Type 0} (xs ys : List X) (x : X) → slice_get xs 0 ≡ Some x → slice_get (xs ++ ys) 0 ≡ Some x
first_left [] ys x e = absurd (let wrong : None ≡ Some x = e in cc)
first_left (y ∷ xs) ys x e = e

-- One part more that is empty.
pub flat_map_more_none : {X : Type 0} (f : ℕ → List X) (a i : ℕ) → flat_map f (range_with_len a i) ≡ [] → f (a + i) ≡ [] → flat_map f (range_with_len a (suc i)) ≡ []
flat_map_more_none f a zero none e = let same : a + 0 ≡ a = omega arith in ap (λ l. l ++ []) (subst (λ j. f j ≡ []) same e)
flat_map_more_none f a (suc i) none e =
    let parts = empty_left (f a) (flat_map f (range_with_len (a + 1) i)) none in
    let same : a + suc i ≡ (a + 1) + i = omega arith in
    ap (λ l. l ++ flat_map f (range_with_len (a + 1) (suc i))) parts.0
    ∙ flat_map_more_none f (a + 1) i parts.1 (subst (λ j. f j ≡ []) same e)

-- The first item stands in the first part that has one.
pub flat_map_first : {X : Type 0} (f : ℕ → List X) (a n i : ℕ) (x : X) → i < n → flat_map f (range_with_len a i) ≡ [] → slice_get (f (a + i)) 0 ≡ Some x → slice_get (flat_map f (range_with_len a n)) 0 ≡ Some x
flat_map_first f a zero i x lt none e = absurd (omega arith)
flat_map_first f a (suc n) zero x lt none e =
    let same : a + 0 ≡ a = omega arith in
    first_left (f a) (flat_map f (range_with_len (a + 1) n)) x (subst (λ j. slice_get (f j) 0 ≡ Some x) same e)
flat_map_first f a (suc n) (suc i) x lt none e =
    let parts = empty_left (f a) (flat_map f (range_with_len (a + 1) i)) none in
    let same : a + suc i ≡ (a + 1) + i = omega arith in
    ap (λ l. slice_get (l ++ flat_map f (range_with_len (a + 1) n)) 0) parts.0
    ∙ flat_map_first f (a + 1) n i x (omega arith) parts.1 (subst (λ j. slice_get (f j) 0 ≡ Some x) same e)
