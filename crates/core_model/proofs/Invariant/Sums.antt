-- Sums over nodelets.
use Rattle.std.proofs.Common.{◌≡◌, ℕ, zero, suc, ◌+◌, ◌<◌, [], ◌∷◌, length, refl, sym, ap, arith, false, ⊎_elim}
use Rattle.std.specs.Prelude.{if◌then◌else◌, ◌==◌}
use Rattle.std.proofs.lemmas.Bool.{eq-eqb, cases_lt}
use Rattle.std.proofs.lemmas.Bool.Decides.{eqb_tells}

abbrev pub total : ℕ → (ℕ → ℕ) → ℕ
total zero f = 0
total (suc n) f = f n + total n f

pub total-same : (n : ℕ) (f g : ℕ → ℕ) → ((b : ℕ) → b < n → g b ≡ f b) → total n g ≡ total n f
total-same zero f g e = refl
total-same (suc n) f g e = let h = e n (omega arith) in let t = total-same n f g (λ b l. e b (omega arith)) in omega arith

-- one of them changes
pub total-one : (n : ℕ) (f g : ℕ → ℕ) (j : ℕ) → j < n → ((b : ℕ) → (b == j) ≡ false → g b ≡ f b) → total n g + f j ≡ total n f + g j
total-one zero f g j l e = absurd (omega arith)
total-one (suc n) f g j l e = ⊎_elim
    (λ lt. let t = total-one n f g j lt e in let h = e n (grind (arith, eqb_tells)) in omega arith)
    (λ le. let is : j ≡ n = omega arith in let t = total-same n f g (λ b m. e b (grind (arith, eqb_tells))) in
    let h : f n ≡ f j = ap f (sym is) in let h' : g n ≡ g j = ap g (sym is) in omega arith)
    (cases_lt j n)

-- where nothing is in all nothing is in each
pub total-none : (n : ℕ) (f : ℕ → ℕ) → total n f ≡ 0 → (b : ℕ) → b < n → f b ≡ 0
total-none zero f e b l = absurd (omega arith)
total-none (suc n) f e b l = ⊎_elim
    (λ lt. total-none n f (omega arith) b lt)
    (λ le. let is : b ≡ n = omega arith in let h : f b ≡ f n = ap f is in omega arith)
    (cases_lt b n)

pub total-zero : (n : ℕ) (f : ℕ → ℕ) → ((b : ℕ) → f b ≡ 0) → total n f ≡ 0
total-zero zero f z = refl
total-zero (suc n) f z = let h = total-zero n f z in let g = z n in omega arith

pub total-sum : (n : ℕ) (f g : ℕ → ℕ) → total n f + total n g ≡ total n (λ b. f b + g b)
total-sum zero f g = refl
total-sum (suc n) f g = let h = total-sum n f g in omega arith

-- one item for nodelet `to` alone
pub total-to : {A : Type 0} (n to : ℕ) (item : A) → to < n → total n (λ b. length (if b == to then item ∷ [] else [])) ≡ 1
total-to n to item below =
    let one = total-one n (λ b. 0) (λ b. length (if b == to then item ∷ [] else [])) to below (λ b f. ap (λ t. length (if t then item ∷ [] else [])) f) in
    let none = total-zero n (λ b. 0) (λ b. refl) in
    let here : length (if to == to then item ∷ [] else []) ≡ 1 = ap (λ t. length (if t then item ∷ [] else [])) (eq-eqb to to refl) in
    omega arith
