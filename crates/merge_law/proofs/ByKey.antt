-- There is one list that rises by a key and has the same items of each key in the same order.
use Rattle.std.proofs.Common.{◌≡◌, ℕ, suc, ◌<◌, ◌≤◌, List, [], ◌∷◌, length, map, refl, sym, ap, ◌∙◌, subst, arith, Bool, true, false, Less, Equal, Greater}
use Rattle.std.specs.Prelude.{⊤, if◌then◌else◌, ◌==◌, ◌&&◌, not, nat_lt, nat_le, cond, filter}
use Rattle.std.specs.List.Sorted.{IsNonDecreasingBy, IsStableByKey, ties}
use Rattle.std.specs.Ordering.{nat_cmp, is_lt}
use Rattle.std.proofs.lemmas.Bool.{eqb-true}
use Rattle.std.proofs.lemmas.Bool.Decides.{eqb_tells}
use Rattle.std.proofs.Math.Path.{fun_ext}
use Rattle.merge_law.specs.Order.{put_by, by_key}
use Rattle.merge_law.proofs.Somes.{head_is, tail_is, same_number}
use Rattle.merge_law.proofs.Pairs.{Each, Pairwise, each_with, each_then, pairwise_filter, filter-filter}

le_true : (a b : ℕ) → nat_le a b ≡ true → a ≤ b
le_true a b e = search arith

le_false : (a b : ℕ) → nat_le a b ≡ false → b < a
le_false a b e = grind arith

same_ends : (a b : ℕ) → a ≤ b → b ≤ a → a ≡ b
same_ends a b p q = omega arith

less : (a b : ℕ) → is_lt (nat_cmp a b) ≡ nat_lt a b
less a b = go (nat_lt a b) (a == b)
  where
    go : (s t : Bool) → is_lt (cond s Less (cond t Equal Greater)) ≡ s
    go true t = refl
    go false true = refl
    go false false = refl

-- neither is less exactly where they are equal
tie : (a b : ℕ) → (not (is_lt (nat_cmp a b)) && not (is_lt (nat_cmp b a))) ≡ (b == a)
tie a b = ap (λ s. not s && not (is_lt (nat_cmp b a))) (less a b) ∙ ap (λ s. not (nat_lt a b) && not s) (less b a) ∙ go (nat_lt a b) refl (nat_lt b a) refl (b == a) refl
  where
    go : (s : Bool) → nat_lt a b ≡ s → (t : Bool) → nat_lt b a ≡ t → (u : Bool) → (b == a) ≡ u → (not s && not t) ≡ u
    go true e t f true g = absurd (let w = eqb-true _ _ g in grind arith)
    go true e t f false g = refl
    go false e true f true g = absurd (let w = eqb-true _ _ g in grind arith)
    go false e true f false g = refl
    go false e false f true g = refl
    go false e false f false g = absurd (grind (arith, eqb_tells))

module _ {X : Type 0} (key : X → ℕ) where
  -- no key is below b
  abbrev pub From : ℕ → List X → Type 0
  From b l = Each (λ x. b ≤ key x) l

  -- keys never fall
  abbrev pub Rises : List X → Type 0
  Rises l = Pairwise (λ x y. key x ≤ key y) l

  pub weaker : (a b : ℕ) (l : List X) → a ≤ b → From b l → From a l
  weaker a b l h all = each_then (λ x. b ≤ key x) (λ x. a ≤ key x) (λ x p. omega arith) l all

  -- ---- what is put into its place

  each_put : (P : X → Type 0) (x : X) (l : List X) → P x → Each P l → Each P (put_by key x l)
  each_put P x [] h all = (h, tt)
  each_put P x (y ∷ ys) h all = go (each_put P x ys h all.1) (nat_le (key x) (key y))
    where
      go : Each P (put_by key x ys) → (t : Bool) → Each P (if t then x ∷ y ∷ ys else y ∷ put_by key x ys)
      go ih true = (h, all)
      go ih false = (all.0, ih)

  pub each_by : (P : X → Type 0) (l : List X) → Each P l → Each P (by_key key l)
  each_by P [] all = tt
  each_by P (x ∷ xs) all = each_put P x (by_key key xs) all.0 (each_by P xs all.1)

  length-put_by : (x : X) (l : List X) → length (put_by key x l) ≡ suc (length l)
  length-put_by x [] = refl
  length-put_by x (y ∷ ys) = go (length-put_by x ys) (nat_le (key x) (key y))
    where
      go : length (put_by key x ys) ≡ suc (length ys) → (t : Bool) → length (if t then x ∷ y ∷ ys else y ∷ put_by key x ys) ≡ suc (suc (length ys))
      go ih true = refl
      go ih false = ap suc ih

  pub length-by_key : (l : List X) → length (by_key key l) ≡ length l
  length-by_key [] = refl
  length-by_key (x ∷ xs) = length-put_by x (by_key key xs) ∙ ap suc (length-by_key xs)

  -- R holds of x and what comes after it, where S does
  pairwise_put : (R : X → X → Type 0) (S : X → Type 0) (x : X) → ((y : X) → key x ≤ key y → S y → R x y) → ((y : X) → key y < key x → S y → R y x) → (l : List X) → Each S l → Rises l → Pairwise R l → Pairwise R (put_by key x l)
  pairwise_put R S x before behind [] s rises p = (tt, tt)
  pairwise_put R S x before behind (y ∷ ys) s rises p = go (pairwise_put R S x before behind ys s.1 rises.1 p.1) (nat_le (key x) (key y)) refl
    where
      go : Pairwise R (put_by key x ys) → (t : Bool) → nat_le (key x) (key y) ≡ t → Pairwise R (if t then x ∷ y ∷ ys else y ∷ put_by key x ys)
      go ih true e =
          let le = le_true (key x) (key y) e in
          let later : Each (R x) ys = each_with (λ z. key y ≤ key z) S (R x) (λ z h k. before z (omega arith) k) ys rises.0 s.1 in
          ((before y le s.0, later), p)
      go ih false e = (each_put (R y) x ys (behind y (le_false (key x) (key y) e) s.0) p.0, ih)

  pub rises_by : (l : List X) → Rises (by_key key l)
  rises_by [] = tt
  rises_by (x ∷ xs) = pairwise_put (λ y z. key y ≤ key z) (λ y. key x ≤ key x) x (λ y h s. h) (λ y h s. omega arith) (by_key key xs) (each_then (λ y. ⊤) (λ y. key x ≤ key x) (λ y h. omega arith) (by_key key xs) (any (by_key key xs))) (rises_by xs) (rises_by xs)
    where
      any : (l : List X) → Each (λ y. ⊤) l
      any [] = tt
      any (y ∷ ys) = (tt, any ys)

  -- R holds in the order of the key, where T held before
  pub pairwise_by : (R T : X → X → Type 0) → ((x y : X) → key x ≤ key y → T x y → R x y) → ((x y : X) → key y < key x → T x y → R y x) → (l : List X) → Pairwise T l → Pairwise R (by_key key l)
  pairwise_by R T before behind [] p = tt
  pairwise_by R T before behind (x ∷ xs) p = pairwise_put R (T x) x (before x) (behind x) (by_key key xs) (each_by (T x) xs p.0) (rises_by xs) (pairwise_by R T before behind xs p.1)

  -- ---- items of one key

  abbrev pub at : ℕ → X → Bool
  at t x = key x == t

  same_put : (t : ℕ) (x : X) (l : List X) → filter (at t) (put_by key x l) ≡ cond (at t x) (x ∷ filter (at t) l) (filter (at t) l)
  same_put t x [] = refl
  same_put t x (y ∷ ys) = go (same_put t x ys) (nat_le (key x) (key y)) refl
    where
      swap : nat_le (key x) (key y) ≡ false → (a b : Bool) → (key x == t) ≡ a → (key y == t) ≡ b → cond b (y ∷ cond a (x ∷ filter (at t) ys) (filter (at t) ys)) (cond a (x ∷ filter (at t) ys) (filter (at t) ys)) ≡ cond a (x ∷ cond b (y ∷ filter (at t) ys) (filter (at t) ys)) (cond b (y ∷ filter (at t) ys) (filter (at t) ys))
      swap e true true f g = absurd (let z = eqb-true _ _ f in let w = eqb-true _ _ g in let c : key x ≡ key y = z ∙ sym w in grind arith)
      swap e true false f g = refl
      swap e false true f g = refl
      swap e false false f g = refl

      go : filter (at t) (put_by key x ys) ≡ cond (at t x) (x ∷ filter (at t) ys) (filter (at t) ys) → (c : Bool) → nat_le (key x) (key y) ≡ c → filter (at t) (if c then x ∷ y ∷ ys else y ∷ put_by key x ys) ≡ cond (at t x) (x ∷ filter (at t) (y ∷ ys)) (filter (at t) (y ∷ ys))
      go ih true e = refl
      go ih false e = ap (λ l. cond (at t y) (y ∷ l) l) ih ∙ swap e (key x == t) (key y == t) refl refl

  pub same_by : (t : ℕ) (l : List X) → filter (at t) (by_key key l) ≡ filter (at t) l
  same_by t [] = refl
  same_by t (x ∷ xs) = same_put t x (by_key key xs) ∙ ap (λ l. cond (at t x) (x ∷ l) l) (same_by t xs)

  -- ---- one list

  least : (b t : ℕ) (y : X) (r l : List X) → From b l → filter (at t) l ≡ y ∷ r → b ≤ t
  least b t y r [] all e = absurd (cc)
  least b t y r (x ∷ xs) all e = go (least b t y r xs all.1) (key x == t) refl e
    where
      go : (filter (at t) xs ≡ y ∷ r → b ≤ t) → (c : Bool) → (key x == t) ≡ c → cond c (x ∷ filter (at t) xs) (filter (at t) xs) ≡ y ∷ r → b ≤ t
      go ih true f k = subst (λ z. b ≤ z) (eqb-true _ _ f) all.0
      go ih false f k = ih k

  taken_at : (x : X) (l : List X) → filter (at (key x)) (x ∷ l) ≡ x ∷ filter (at (key x)) l
  taken_at x l = ap (λ c. cond c (x ∷ filter (at (key x)) l) (filter (at (key x)) l)) (same_number (key x))

  unique : (ys zs : List X) → Rises ys → Rises zs → ((t : ℕ) → filter (at t) ys ≡ filter (at t) zs) → ys ≡ zs
  unique [] [] a b h = refl
  unique [] (z ∷ zs) a b h = absurd (let e : [] ≡ z ∷ filter (at (key z)) zs = h (key z) ∙ taken_at z zs in cc)
  unique (y ∷ ys) [] a b h = absurd (let e : y ∷ filter (at (key y)) ys ≡ [] = sym (taken_at y ys) ∙ h (key y) in cc)
  unique (y ∷ ys) (z ∷ zs) a b h = ap (λ x. x ∷ ys) heads ∙ ap (λ l. z ∷ l) (unique ys zs a.1 b.1 tails)
    where
      reflexive : (c : ℕ) → c ≤ c
      reflexive c = omega arith

      z_least : key z ≤ key y
      z_least = least (key z) (key y) y (filter (at (key y)) ys) (z ∷ zs) (reflexive (key z), b.0) (sym (h (key y)) ∙ taken_at y ys)

      y_least : key y ≤ key z
      y_least = least (key y) (key z) z (filter (at (key z)) zs) (y ∷ ys) (reflexive (key y), a.0) (h (key z) ∙ taken_at z zs)

      keys : key y ≡ key z
      keys = same_ends (key y) (key z) y_least z_least

      both : y ∷ filter (at (key y)) ys ≡ z ∷ filter (at (key y)) zs
      both = sym (taken_at y ys) ∙ h (key y) ∙ subst (λ k. filter (at k) (z ∷ zs) ≡ z ∷ filter (at k) zs) (sym keys) (taken_at z zs)

      heads : y ≡ z
      heads = head_is _ _ _ _ both

      tails : (t : ℕ) → filter (at t) ys ≡ filter (at t) zs
      tails t = go (key y == t) refl (h t)
        where
          go : (c : Bool) → (key y == t) ≡ c → filter (at t) (y ∷ ys) ≡ filter (at t) (z ∷ zs) → filter (at t) ys ≡ filter (at t) zs
          go true e k = subst (λ w. filter (at w) ys ≡ filter (at w) zs) (eqb-true _ _ e) (tail_is _ _ _ _ both)
          go false e k = sym (ap (λ c. cond c (y ∷ filter (at t) ys) (filter (at t) ys)) e) ∙ k ∙ ap (λ c. cond c (z ∷ filter (at t) zs) (filter (at t) zs)) (sym (ap (λ w. w == t) keys) ∙ e)

  -- what rises is in order already
  pub by_key-rising : (l : List X) → Rises l → by_key key l ≡ l
  by_key-rising l r = unique (by_key key l) l (rises_by l) r (λ t. same_by t l)

  pub filter-by_key : (p : X → Bool) (l : List X) → filter p (by_key key l) ≡ by_key key (filter p l)
  filter-by_key p l = unique (filter p (by_key key l)) (by_key key (filter p l)) (pairwise_filter (λ x y. key x ≤ key y) p (by_key key l) (rises_by l)) (rises_by (filter p l)) (λ t. filter-filter (at t) p (by_key key l) ∙ ap (filter p) (same_by t l) ∙ filter-filter p (at t) l ∙ sym (same_by t (filter p l)))

  -- ---- what a stable sort by the key leaves

  rises_from : (l : List X) → IsNonDecreasingBy key l → Rises l
  rises_from [] h = tt
  rises_from (x ∷ []) h = (tt, tt)
  rises_from (x ∷ y ∷ ys) h = go (rises_from (y ∷ ys) (λ i j d a b. h (suc i) (suc j) d (omega arith) (omega arith)))
    where
      go : Rises (y ∷ ys) → Rises (x ∷ y ∷ ys)
      go ih = let le : key x ≤ key y = h 0 1 x (omega arith) (omega arith) in ((le, weaker (key x) (key y) ys le ih.0), ih)

  -- some item has each key
  pub is_by_key : (xs ys : List X) → (with_key : ℕ → X) → ((t : ℕ) → key (with_key t) ≡ t) → IsNonDecreasingBy key ys → IsStableByKey key nat_cmp xs ys → ys ≡ by_key key xs
  is_by_key xs ys with_key keyed rises stable = unique ys (by_key key xs) (rises_from ys rises) (rises_by xs) (λ t. same t ∙ sym (same_by t xs))
    where
      tests : (t : ℕ) (y : X) → ties (λ a b. is_lt (nat_cmp (key a) (key b))) (with_key t) y ≡ at t y
      tests t y = ap (λ z. not (is_lt (nat_cmp z (key y))) && not (is_lt (nat_cmp (key y) z))) (keyed t) ∙ tie t (key y)

      same : (t : ℕ) → filter (at t) ys ≡ filter (at t) xs
      same t = let f = fun_ext (tests t) in ap (λ p. filter p ys) (sym f) ∙ stable (with_key t) ∙ ap (λ p. filter p xs) f

-- ---- a key of a part of each item

map-put_by : {X Y : Type 0} (f : X → Y) (key : Y → ℕ) (x : X) (l : List X) → map f (put_by (λ z. key (f z)) x l) ≡ put_by key (f x) (map f l)
map-put_by f key x [] = refl
map-put_by {X} {Y} f key x (y ∷ ys) = go (map-put_by f key x ys) (nat_le (key (f x)) (key (f y)))
  where
    go : map f (put_by (λ z. key (f z)) x ys) ≡ put_by key (f x) (map f ys) → (t : Bool) → map f (if t then x ∷ y ∷ ys else y ∷ put_by (λ z. key (f z)) x ys) ≡ (if t then f x ∷ f y ∷ map f ys else f y ∷ put_by key (f x) (map f ys))
    go ih true = refl
    go ih false = ap (λ l. f y ∷ l) ih

pub map-by_key : {X Y : Type 0} (f : X → Y) (key : Y → ℕ) (l : List X) → map f (by_key (λ x. key (f x)) l) ≡ by_key key (map f l)
map-by_key f key [] = refl
map-by_key f key (x ∷ xs) = map-put_by f key x (by_key (λ z. key (f z)) xs) ∙ ap (put_by key (f x)) (map-by_key f key xs)
