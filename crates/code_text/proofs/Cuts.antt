-- Where a text is cut.
use Rattle.std.proofs.Common.{◌≡◌, ◌<◌, ◌+◌, ◌-◌, ◌==◌, ℕ, zero, suc, Bool, true, false, List, [], ◌∷◌, ◌++◌, length, take, drop, get_or, Option, Some, None, if◌then◌else◌, refl, ap, sym, ◌∙◌, arith}
use Rattle.std.specs.Option.{option_map}
use Rattle.std.proofs.lemmas.Grind.{common_steps}
use Rattle.code_text.specs.Words.{cut}

-- the first such byte is here
pub cut_at : (b : ℕ) (xs : List ℕ) (k : ℕ) → k < length xs → ((j : ℕ) → j < k → (get_or xs j 0 == b) ≡ false) → (get_or xs k 0 == b) ≡ true →
    cut b xs ≡ Some (take k xs, drop (k + 1) xs)
cut_at b [] k below before here = absurd (omega (arith, below))
cut_at b (x ∷ xs) zero below before here = ap (λ t. if t then Some ([], xs) else option_map (λ (y : List ℕ × List ℕ). (x ∷ y.0, y.1)) (cut b xs)) here
cut_at b (x ∷ xs) (suc k) below before here =
    let first : (x == b) ≡ false = before 0 (omega arith) in
    let rest = cut_at b xs k (omega (arith, below)) (λ j less. before (suc j) (omega (arith, less))) here in
    let next : suc k + 1 ≡ suc (k + 1) = omega arith in
    ap (λ t. if t then Some ([], xs) else option_map (λ (y : List ℕ × List ℕ). (x ∷ y.0, y.1)) (cut b xs)) first
    ∙ ap (λ o. option_map (λ (y : List ℕ × List ℕ). (x ∷ y.0, y.1)) o) rest
    ∙ ap (λ n. Some (take (suc k) (x ∷ xs), drop n (x ∷ xs))) (sym next)

-- there is none
pub cut_none : (b : ℕ) (xs : List ℕ) → ((j : ℕ) → j < length xs → (get_or xs j 0 == b) ≡ false) → cut b xs ≡ None
cut_none b [] none = refl
cut_none b (x ∷ xs) none =
    let first : (x == b) ≡ false = none 0 (omega arith) in
    ap (λ t. if t then Some ([], xs) else option_map (λ (y : List ℕ × List ℕ). (x ∷ y.0, y.1)) (cut b xs)) first
    ∙ ap (λ o. option_map (λ (y : List ℕ × List ℕ). (x ∷ y.0, y.1)) o) (cut_none b xs (λ j less. none (suc j) (omega (arith, less))))

-- all that is behind
pub to_end : (n : ℕ) (xs : List ℕ) → take (length xs - n) (drop n xs) ≡ drop n xs
to_end n xs = grind (arith, common_steps)

-- a byte that a text lacks
abbrev pub Lacks : ℕ → List ℕ → Type 0
Lacks b [] = Unit {0}
Lacks b (x ∷ xs) = ((x == b) ≡ false) × Lacks b xs

-- where one text lacks it and the other does, both do
pub lacks_both : (b : ℕ) (xs ys : List ℕ) → Lacks b xs → Lacks b ys → Lacks b (xs ++ ys)
lacks_both b [] ys h k = k
lacks_both b (x ∷ xs) ys h k = (h.0, lacks_both b xs ys h.1 k)

-- it is cut behind a text that lacks it
pub cut_finds : (b : ℕ) (xs rest : List ℕ) → Lacks b xs → cut b (xs ++ (b ∷ rest)) ≡ Some (xs, rest)
cut_finds b [] rest lacks = let same : (b == b) ≡ true = grind arith in ap (λ t. if t then Some ([], rest) else option_map (λ (y : List ℕ × List ℕ). (b ∷ y.0, y.1)) (cut b rest)) same
cut_finds b (x ∷ xs) rest lacks =
    ap (λ t. if t then Some ([], xs ++ (b ∷ rest)) else option_map (λ (y : List ℕ × List ℕ). (x ∷ y.0, y.1)) (cut b (xs ++ (b ∷ rest)))) lacks.0
    ∙ ap (λ o. option_map (λ (y : List ℕ × List ℕ). (x ∷ y.0, y.1)) o) (cut_finds b xs rest lacks.1)

-- what is cut is what was there
behind_sound : (b x : ℕ) (xs : List ℕ) (y : List ℕ × List ℕ) (o : Option (List ℕ × List ℕ)) → ((z : List ℕ × List ℕ) → o ≡ Some z → xs ≡ z.0 ++ (b ∷ z.1)) →
    option_map (λ (z : List ℕ × List ℕ). (x ∷ z.0, z.1)) o ≡ Some y → x ∷ xs ≡ y.0 ++ (b ∷ y.1)
behind_sound b x xs y None deep e = absurd (grind (arith, e))
behind_sound b x xs y (Some z) deep e =
    let same : (x ∷ z.0, z.1) ≡ y = grind (arith, e) in
    ap (λ t. x ∷ t) (deep z refl) ∙ ap (λ (w : List ℕ × List ℕ). w.0 ++ (b ∷ w.1)) same

here_sound : (b x : ℕ) (xs : List ℕ) (y : List ℕ × List ℕ) (t : Bool) → (x == b) ≡ t → ((z : List ℕ × List ℕ) → cut b xs ≡ Some z → xs ≡ z.0 ++ (b ∷ z.1)) →
    (if t then Some ([], xs) else option_map (λ (z : List ℕ × List ℕ). (x ∷ z.0, z.1)) (cut b xs)) ≡ Some y → x ∷ xs ≡ y.0 ++ (b ∷ y.1)
here_sound b x xs y true is deep e =
    let same : ([], xs) ≡ y = grind (arith, e) in
    let here : x ≡ b = grind (arith, is) in
    ap (λ z. z ∷ xs) here ∙ ap (λ (w : List ℕ × List ℕ). w.0 ++ (b ∷ w.1)) same
here_sound b x xs y false is deep e = behind_sound b x xs y (cut b xs) deep e

pub cut_sound : (b : ℕ) (xs : List ℕ) (y : List ℕ × List ℕ) → cut b xs ≡ Some y → xs ≡ y.0 ++ (b ∷ y.1)
cut_sound b [] y e = absurd (grind (arith, e))
cut_sound b (x ∷ xs) y e = here_sound b x xs y (x == b) refl (λ z is. cut_sound b xs z is) e
