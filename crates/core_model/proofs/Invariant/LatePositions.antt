-- The least of late positions, in whatever order they come.
use Rattle.std.proofs.Common.{◌≡◌, ℕ, zero, suc, ◌<◌, ◌≤◌, ◌⊎◌, List, [], ◌∷◌, ◌++◌, Option, Some, None, refl, sym, ap, ◌∙◌, subst, arith, Bool, true, false}
use Rattle.std.specs.Prelude.{if◌then◌else◌, ◌==◌, nat_lt, nat_le, ◌&&◌, ◌||◌}
use Rattle.std.proofs.lemmas.Bool.{eqb-true}
use Rattle.std.proofs.lemmas.Bool.Decides.{nat_tests, eqb_tells}
use Rattle.word_ops.specs.declared.place.Pos.{Pos}
use Rattle.world_model.specs.Step.{lesser_pos, late_after}

abbrev pub lesser : Option Pos → Option Pos → Option Pos
lesser None q = q
lesser (Some p) None = Some p
lesser (Some p) (Some q) = Some (lesser_pos p q)

-- the least of a list of late positions and one more
abbrev pub lates : List (Option Pos) → Option Pos → Option Pos
lates [] o = o
lates (l ∷ ls) o = lesser l (lates ls o)

-- and of lists from all nodelets
abbrev pub all_lates : ℕ → (ℕ → List (Option Pos)) → Option Pos → Option Pos
all_lates zero f o = o
all_lates (suc n) f o = lates (f n) (all_lates n f o)

-- ---- the order of positions

abbrev is_before : Pos → Pos → Bool
is_before p q = nat_lt p.line q.line || (p.line == q.line && nat_le p.column q.column)

abbrev Before : Pos → Pos → Type 0
Before p q = (p.line < q.line) ⊎ ((p.line ≡ q.line) × (p.column ≤ q.column))

abbrev Behind : Pos → Pos → Type 0
Behind p q = (q.line < p.line) ⊎ ((q.line ≡ p.line) × (q.column < p.column))

before : (p q : Pos) → is_before p q ≡ true → Before p q
before p q h = grind (arith, nat_tests)

behind : (p q : Pos) → is_before p q ≡ false → Behind p q
behind p q h = grind (arith, nat_tests)

abbrev position : ℕ → ℕ → Pos
position line column = record { line = line; column = column }

same_pos : (p q : Pos) → p.line ≡ q.line → p.column ≡ q.column → p ≡ q
same_pos p q e f = ap (λ l. position l p.column) e ∙ ap (position q.line) f

lesser_pos-swap : (a b : Pos) → lesser_pos a b ≡ lesser_pos b a
lesser_pos-swap a b = go (is_before a b) refl (is_before b a) refl
  where
    go : (x : Bool) → is_before a b ≡ x → (y : Bool) → is_before b a ≡ y → (if x then a else b) ≡ (if y then b else a)
    go true e true f = let h = before a b e in let g = before b a f in same_pos a b (omega arith) (omega arith)
    go true e false f = refl
    go false e true f = refl
    go false e false f = let h = behind a b e in let g = behind b a f in absurd (omega arith)

turned : (a b o : Pos) (x y z u : Bool) → is_before b o ≡ x → is_before a b ≡ y → is_before a o ≡ z → is_before b a ≡ u →
    (if x then (if y then a else b) else (if z then a else o)) ≡ (if z then (if u then b else a) else (if x then b else o))
turned a b o true true true true e1 e2 e3 e4 = let h = before a b e2 in let g = before b a e4 in same_pos a b (omega arith) (omega arith)
turned a b o true true true false e1 e2 e3 e4 = refl
turned a b o true false true true e1 e2 e3 e4 = refl
turned a b o true false true false e1 e2 e3 e4 = let h = behind a b e2 in let g = behind b a e4 in absurd (omega arith)
turned a b o true true false u e1 e2 e3 e4 = let h = before b o e1 in let g = before a b e2 in let f = behind a o e3 in absurd (omega arith)
turned a b o true false false u e1 e2 e3 e4 = refl
turned a b o false y true true e1 e2 e3 e4 = let h = behind b o e1 in let g = before b a e4 in let f = before a o e3 in absurd (omega arith)
turned a b o false y true false e1 e2 e3 e4 = refl
turned a b o false y false u e1 e2 e3 e4 = refl

unfolded : (a : Pos) (t : Bool) (p q : Pos) → lesser_pos a (if t then p else q) ≡ (if t then (if is_before a p then a else p) else (if is_before a q then a else q))
unfolded a true p q = refl
unfolded a false p q = refl

lesser_pos-turn : (a b o : Pos) → lesser_pos a (lesser_pos b o) ≡ lesser_pos b (lesser_pos a o)
lesser_pos-turn a b o = unfolded a (is_before b o) b o ∙ turned a b o (is_before b o) (is_before a b) (is_before a o) (is_before b a) refl refl refl refl ∙ sym (unfolded b (is_before a o) a o)

-- ---- lists of them

pub lesser-turn : (a b o : Option Pos) → lesser a (lesser b o) ≡ lesser b (lesser a o)
lesser-turn None b o = refl
lesser-turn (Some a) None o = refl
lesser-turn (Some a) (Some b) None = ap Some (lesser_pos-swap a b)
lesser-turn (Some a) (Some b) (Some o) = ap Some (lesser_pos-turn a b o)

pub late_after-is : (o : Option Pos) (p : Pos) → Some (late_after o p) ≡ lesser (Some p) o
late_after-is None p = refl
late_after-is (Some q) p = ap Some (lesser_pos-swap q p)

lates-turn : (ls : List (Option Pos)) (l o : Option Pos) → lates ls (lesser l o) ≡ lesser l (lates ls o)
lates-turn [] l o = refl
lates-turn (m ∷ ls) l o = ap (lesser m) (lates-turn ls l o) ∙ lesser-turn m l (lates ls o)

-- one more behind all
pub lates-append : (ls : List (Option Pos)) (l o : Option Pos) → lates (ls ++ l ∷ []) o ≡ lesser l (lates ls o)
lates-append [] l o = refl
lates-append (m ∷ ls) l o = ap (lesser m) (lates-append ls l o) ∙ lesser-turn m l (lates ls o)

pub all_lates-turn : (n : ℕ) (f : ℕ → List (Option Pos)) (l o : Option Pos) → all_lates n f (lesser l o) ≡ lesser l (all_lates n f o)
all_lates-turn zero f l o = refl
all_lates-turn (suc n) f l o = ap (lates (f n)) (all_lates-turn n f l o) ∙ lates-turn (f n) l (all_lates n f o)

pub all_lates-same : (n : ℕ) (f g : ℕ → List (Option Pos)) (o : Option Pos) → ((b : ℕ) → b < n → f b ≡ g b) → all_lates n f o ≡ all_lates n g o
all_lates-same zero f g o e = refl
all_lates-same (suc n) f g o e = ap (λ l. lates l (all_lates n f o)) (e n (omega arith)) ∙ ap (lates (g n)) (all_lates-same n f g o (λ b lt. e b (omega arith)))

pub all_lates-none : (n : ℕ) (f : ℕ → List (Option Pos)) (o : Option Pos) → ((b : ℕ) → f b ≡ []) → all_lates n f o ≡ o
all_lates-none zero f o h = refl
all_lates-none (suc n) f o h = ap (λ l. lates l (all_lates n f o)) (h n) ∙ all_lates-none n f o h

-- one list changes so that l comes to it
pub all_lates-one : (n : ℕ) (f g : ℕ → List (Option Pos)) (l o : Option Pos) (j : ℕ) → j < n → ((b : ℕ) → (b == j) ≡ false → g b ≡ f b) →
    ((p : Option Pos) → lates (g j) p ≡ lesser l (lates (f j) p)) → all_lates n g o ≡ lesser l (all_lates n f o)
all_lates-one zero f g l o j lt e h = absurd (omega arith)
all_lates-one (suc n) f g l o j lt e h = by (λ below. all_lates-one n f g l o j below e h) (n == j) refl
  where
    by : (j < n → all_lates n g o ≡ lesser l (all_lates n f o)) → (b : Bool) → (n == j) ≡ b → lates (g n) (all_lates n g o) ≡ lesser l (lates (f n) (all_lates n f o))
    by ih true is = let nj : n ≡ j = eqb-true n j is in
        ap (lates (g n)) (all_lates-same n g f o (λ b m. e b (grind (arith, eqb_tells))))
        ∙ subst (λ (c : ℕ). lates (g c) (all_lates n f o) ≡ lesser l (lates (f c) (all_lates n f o))) (sym nj) (h (all_lates n f o))
    by ih false is = ap (λ x. lates x (all_lates n g o)) (e n is) ∙ ap (lates (f n)) (ih (grind (arith, eqb_tells))) ∙ lates-turn (f n) l (all_lates n f o)
