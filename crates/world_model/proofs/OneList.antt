-- The words of a world have one list.
use Rattle.std.proofs.Common.{◌≡◌, ◌≢◌, ℕ, zero, suc, ◌<◌, ◌⊎◌, inl, inr, List, [], ◌∷◌, length, refl, sym, ap, ◌∙◌, subst, arith, Bool, true, false, ⊎_elim, ℤ, pos, negsuc, IsTrue, Contains, AllPairs, slice_index_or}
use Rattle.std.specs.Prelude.{◌==◌, ◌&&◌, ◌||◌, nat_lt, int_lt}
use Rattle.std.proofs.lemmas.Bool.Decides.{eqb_tells, nat_tests}
use Rattle.word_ops.specs.declared.traffic.Cell.{Cell}
use Rattle.world_model.specs.Cells.{precedes, AreCells}

-- ---- the order

int_apart : (x y : ℤ) → int_lt x y ≡ true → int_lt y x ≡ true → ⊥
int_apart (pos a) (pos b) e f = grind (arith, nat_tests)
int_apart (pos a) (negsuc b) e f = absurd cc
int_apart (negsuc a) (pos b) e f = absurd cc
int_apart (negsuc a) (negsuc b) e f = grind (arith, nat_tests)

-- of two cells one at most precedes the other
apart : (c d : Cell) → precedes c d ≡ true → precedes d c ≡ true → ⊥
apart c d e f = go (nat_lt c.nodelet d.nodelet) refl (nat_lt d.nodelet c.nodelet) refl e f
  where
    second : (a b : Bool) → (a && b) ≡ true → b ≡ true
    second true b e = e
    second false b e = absurd cc

    first : (a b : Bool) → (a && b) ≡ true → a ≡ true
    first true b e = refl
    first false b e = absurd cc

    go : (a : Bool) → nat_lt c.nodelet d.nodelet ≡ a → (b : Bool) → nat_lt d.nodelet c.nodelet ≡ b →
        (a || (c.nodelet == d.nodelet && int_lt c.address d.address)) ≡ true → (b || (d.nodelet == c.nodelet && int_lt d.address c.address)) ≡ true → ⊥
    go true e true f p q = grind (arith, nat_tests)
    go true e false f p q = let g : (d.nodelet == c.nodelet) ≡ true = first _ _ q in grind (arith, nat_tests, eqb_tells)
    go false e true f p q = let g : (c.nodelet == d.nodelet) ≡ true = first _ _ p in grind (arith, nat_tests, eqb_tells)
    go false e false f p q = int_apart c.address d.address (second _ _ p) (second _ _ q)

-- ---- lists in order

abbrev InOrder : List Cell → Type 0
InOrder cells = AllPairs (λ c d. IsTrue (precedes c d)) cells

nothing_in : (c : Cell) → Contains [] c → ⊥
nothing_in c h = omega (arith, h.1)

there : (x c : Cell) (xs : List Cell) → Contains xs c → Contains (x ∷ xs) c
there x c xs h = (suc h.0, (let z = h.1 in omega arith), h.2)

here : (x : Cell) (xs : List Cell) → Contains (x ∷ xs) x
here x xs = (zero, omega arith, refl)

which : (x c : Cell) (xs : List Cell) → Contains (x ∷ xs) c → (x ≡ c) ⊎ Contains xs c
which x c xs h = go h.0 h.1 h.2
  where
    go : (k : ℕ) → k < length (x ∷ xs) → slice_index_or (x ∷ xs) k c ≡ c → (x ≡ c) ⊎ Contains xs c
    go zero below is = inl is
    go (suc k) below is = inr (k, omega arith, is)

before_rest : (x c : Cell) (xs : List Cell) → InOrder (x ∷ xs) → Contains xs c → precedes x c ≡ true
before_rest x c xs order h = subst (λ y. precedes x y ≡ true) h.2 (order 0 (suc h.0) c (omega arith) (let z = h.1 in omega arith))

rest_in_order : (x : Cell) (xs : List Cell) → InOrder (x ∷ xs) → InOrder xs
rest_in_order x xs order i j d less below = order (suc i) (suc j) d (omega arith) (omega arith)

-- two lists in order with the same elements are the same
same_list : (xs ys : List Cell) → InOrder xs → InOrder ys → ((c : Cell) → Contains xs c → Contains ys c) → ((c : Cell) → Contains ys c → Contains xs c) → xs ≡ ys
same_list [] [] ox oy into back = refl
same_list [] (y ∷ ys) ox oy into back = absurd (nothing_in y (back y (here y ys)))
same_list (x ∷ xs) [] ox oy into back = absurd (nothing_in x (into x (here x xs)))
same_list (x ∷ xs) (y ∷ ys) ox oy into back =
    let heads : x ≡ y = head in
    ap (λ z. z ∷ xs) heads ∙ ap (λ zs. y ∷ zs) (same_list xs ys (rest_in_order x xs ox) (rest_in_order y ys oy) (onto heads) (onto_back heads))
  where
    head : x ≡ y
    head = ⊎_elim (λ e. sym e)
        (λ in_ys. ⊎_elim (λ e. e) (λ in_xs. absurd (apart y x (before_rest y x ys oy in_ys) (before_rest x y xs ox in_xs))) (which x y xs (back y (here y ys))))
        (which y x ys (into x (here x xs)))

    onto : x ≡ y → (c : Cell) → Contains xs c → Contains ys c
    onto e c h = ⊎_elim
        (λ f. let g : precedes x c ≡ true = before_rest x c xs ox h in absurd (apart c c (subst (λ z. precedes z c ≡ true) (e ∙ f) g) (subst (λ z. precedes z c ≡ true) (e ∙ f) g)))
        (λ k. k) (which y c ys (into c (there x c xs h)))

    onto_back : x ≡ y → (c : Cell) → Contains ys c → Contains xs c
    onto_back e c h = ⊎_elim
        (λ f. let g : precedes y c ≡ true = before_rest y c ys oy h in absurd (apart c c (subst (λ z. precedes z c ≡ true) (sym e ∙ f) g) (subst (λ z. precedes z c ≡ true) (sym e ∙ f) g)))
        (λ k. k) (which x c xs (back c (there y c ys h)))

-- ---- the words of a world

abbrev cell : ℕ → ℤ → ℤ → Cell
cell k a x = record { nodelet = k; address = a; word = x }

listed_too : (cells : ℕ → ℤ → ℤ) (xs ys : List Cell) → AreCells cells xs → AreCells cells ys → (c : Cell) → Contains xs c → Contains ys c
listed_too cells xs ys of_xs of_ys c h =
    let is : (cells c.nodelet c.address ≡ c.word) × (c.word ≢ pos 0) = subst (λ (d : Cell). (cells d.nodelet d.address ≡ d.word) × (d.word ≢ pos 0)) h.2 (of_xs.not_zero h.0 c h.1) in
    subst (λ d. Contains ys d) (ap (λ x. cell c.nodelet c.address x) is.0) (of_ys.whole c.nodelet c.address (λ zero. is.1 (sym is.0 ∙ zero)))

pub one_list : (cells : ℕ → ℤ → ℤ) (listed again : List Cell) → AreCells cells listed → AreCells cells again → listed ≡ again
one_list cells listed again a b = same_list listed again a.in_order b.in_order (listed_too cells listed again a b) (listed_too cells again listed b a)
