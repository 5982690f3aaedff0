-- The first of all faults is found part by part.
use Rattle.std.proofs.Common.{◌≡◌, ◌∙◌, ap, sym, ℕ, ◌<◌, ◌≤◌, ◌⊎◌, inl, inr, Bool, true, false, ◌&&◌, ◌||◌, ◌==◌, if◌then◌else◌, List, [], ◌∷◌, ◌++◌, Option, Some, None, refl, arith}
use Rattle.std.specs.Prelude.{nat_lt, nat_le}
use Rattle.std.proofs.lemmas.Bool.{or_cases, and_parts, ltb-true, leb-true, eqb-true}
use Rattle.std.proofs.lemmas.Grind.{common_steps}
use Rattle.cilk_ast.specs.declared.fault.TextFault.{TextFault}
use Rattle.cilk_model.specs.FirstFault.{rank_of, comes_first, earlier, first_fault}

-- three numbers come before three others, or are the same
abbrev in_order : ℕ → ℕ → ℕ → ℕ → ℕ → ℕ → Bool
in_order a b c x y z = nat_lt a x || (a == x && nat_lt b y) || ((a == x && b == y) && nat_le c z)

data InOrder (a b c x y z : ℕ) : Type 0 where
  by_first : a < x → InOrder a b c x y z
  by_second : a ≡ x → b < y → InOrder a b c x y z
  by_third : a ≡ x → b ≡ y → c ≤ z → InOrder a b c x y z

in_order-true : (a b c x y z : ℕ) → in_order a b c x y z ≡ true → InOrder a b c x y z
in_order-true a b c x y z h = outer (or_cases _ _ h)
  where
    at_second : (a == x && nat_lt b y) ≡ true → InOrder a b c x y z
    at_second e = let parts = and_parts _ _ e in by_second (eqb-true a x (parts.0)) (ltb-true b y (parts.1))

    at_third : ((a == x && b == y) && nat_le c z) ≡ true → InOrder a b c x y z
    at_third e =
        let parts = and_parts _ _ e in
        let same = and_parts _ _ (parts.0) in
        by_third (eqb-true a x (same.0)) (eqb-true b y (same.1)) (leb-true c z (parts.1))

    inner : (nat_lt a x ≡ true) ⊎ ((a == x && nat_lt b y) ≡ true) → InOrder a b c x y z
    inner (inl e) = by_first (ltb-true a x e)
    inner (inr e) = at_second e

    outer : ((nat_lt a x || (a == x && nat_lt b y)) ≡ true) ⊎ (((a == x && b == y) && nat_le c z) ≡ true) → InOrder a b c x y z
    outer (inl e) = inner (or_cases _ _ e)
    outer (inr e) = at_third e

in_order-from : (a b c x y z : ℕ) → InOrder a b c x y z → in_order a b c x y z ≡ true
in_order-from a b c x y z (by_first h) = grind arith
in_order-from a b c x y z (by_second e h) = grind arith
in_order-from a b c x y z (by_third e f h) = grind arith

InOrder-trans : (a b c l m n x y z : ℕ) → InOrder a b c l m n → InOrder l m n x y z → InOrder a b c x y z
InOrder-trans a b c l m n x y z (by_first h) (by_first k) = by_first (omega arith)
InOrder-trans a b c l m n x y z (by_first h) (by_second e k) = by_first (omega arith)
InOrder-trans a b c l m n x y z (by_first h) (by_third e f k) = by_first (omega arith)
InOrder-trans a b c l m n x y z (by_second e h) (by_first k) = by_first (omega arith)
InOrder-trans a b c l m n x y z (by_second e h) (by_second d k) = by_second (omega arith) (omega arith)
InOrder-trans a b c l m n x y z (by_second e h) (by_third d f k) = by_second (omega arith) (omega arith)
InOrder-trans a b c l m n x y z (by_third e f h) (by_first k) = by_first (omega arith)
InOrder-trans a b c l m n x y z (by_third e f h) (by_second d k) = by_second (omega arith) (omega arith)
InOrder-trans a b c l m n x y z (by_third e f h) (by_third d g k) = by_third (omega arith) (omega arith) (omega arith)

comes_first-trans : (f g h : TextFault) → comes_first f g ≡ true → comes_first g h ≡ true → comes_first f h ≡ true
comes_first-trans f g h fg gh =
    in_order-from f.pos.line f.pos.column (rank_of f.kind) h.pos.line h.pos.column (rank_of h.kind)
    (InOrder-trans _ _ _ _ _ _ _ _ _
    (in_order-true f.pos.line f.pos.column (rank_of f.kind) g.pos.line g.pos.column (rank_of g.kind) fg)
    (in_order-true g.pos.line g.pos.column (rank_of g.kind) h.pos.line h.pos.column (rank_of h.kind) gh))

comes_first-strict : (f g h : TextFault) → comes_first f g ≡ false → comes_first g h ≡ false → comes_first f h ≡ false
comes_first-strict f g h fg gh = grind (arith, common_steps)

pub earlier_none : (f : Option TextFault) → earlier f None ≡ f
earlier_none None = refl
earlier_none (Some f) = refl

earlier_at : (f g : TextFault) (b : Bool) → comes_first f g ≡ b → earlier (Some f) (Some g) ≡ (if b then Some f else Some g)
earlier_at f g b e = ap (λ (t : Bool). if t then Some f else Some g) e

-- of three faults, by which of them comes before which
of_three : (f g h : TextFault) (fg gh : Bool) → comes_first f g ≡ fg → comes_first g h ≡ gh
    → earlier (earlier (Some f) (Some g)) (Some h) ≡ earlier (Some f) (earlier (Some g) (Some h))
of_three f g h true true e d =
    ap (λ x. earlier x (Some h)) (earlier_at f g true e) ∙ earlier_at f h true (comes_first-trans f g h e d)
    ∙ sym (earlier_at f g true e) ∙ sym (ap (earlier (Some f)) (earlier_at g h true d))
of_three f g h true false e d = ap (λ x. earlier x (Some h)) (earlier_at f g true e) ∙ sym (ap (earlier (Some f)) (earlier_at g h false d))
of_three f g h false true e d =
    ap (λ x. earlier x (Some h)) (earlier_at f g false e) ∙ earlier_at g h true d
    ∙ sym (earlier_at f g false e) ∙ sym (ap (earlier (Some f)) (earlier_at g h true d))
of_three f g h false false e d =
    ap (λ x. earlier x (Some h)) (earlier_at f g false e) ∙ earlier_at g h false d
    ∙ sym (earlier_at f h false (comes_first-strict f g h e d)) ∙ sym (ap (earlier (Some f)) (earlier_at g h false d))

pub earlier_assoc : (a b c : Option TextFault) → earlier (earlier a b) c ≡ earlier a (earlier b c)
earlier_assoc None b c = refl
earlier_assoc (Some f) None c = refl
earlier_assoc (Some f) (Some g) None = earlier_none (earlier (Some f) (Some g))
earlier_assoc (Some f) (Some g) (Some h) = of_three f g h _ _ refl refl

pub first_fault_append : (xs ys : List TextFault) → first_fault (xs ++ ys) ≡ earlier (first_fault xs) (first_fault ys)
first_fault_append [] ys = refl
first_fault_append (f ∷ xs) ys =
    ap (earlier (Some f)) (first_fault_append xs ys) ∙ sym (earlier_assoc (Some f) (first_fault xs) (first_fault ys))
