-- Lines and formats that stand one behind the other.
use Rattle.std.proofs.Common.{◌≡◌, ℕ, suc, ◌+◌, List, [], ◌∷◌, ◌++◌, length, subst, arith}
use Rattle.word_ops.specs.declared.format.Part.{Part}
use Rattle.threadlet_code.specs.declared.code.FuncCode.{FuncCode}
use Rattle.codegen_expr.specs.Piece.{Line}
use Rattle.codegen_expr.specs.Stands.{LinesAt, FormatsAt}

module _ (f : FuncCode) where
  pub lines_same : (p q : ℕ) (lines : List Line) → p ≡ q → LinesAt f p lines → LinesAt f q lines
  lines_same p q lines e h = subst (λ r. LinesAt f r lines) e h

  pub lines_front : (place : ℕ) (xs ys : List Line) → LinesAt f place (xs ++ ys) → LinesAt f place xs
  lines_front place [] ys h = tt
  lines_front place (x ∷ xs) ys h = (h.0, lines_front (suc place) xs ys h.1)

  pub lines_back : (place n : ℕ) (xs ys : List Line) → length xs ≡ n → LinesAt f place (xs ++ ys) → LinesAt f (place + n) ys
  lines_back place n [] ys e h = lines_same place (place + n) ys (omega arith) h
  lines_back place n (x ∷ xs) ys e h = lines_same (suc place + length xs) (place + n) ys (omega arith) (lines_back (suc place) (length xs) xs ys (omega arith) h.1)

pub formats_front : (all : List (List Part)) (first : ℕ) (xs ys : List (List Part)) → FormatsAt all first (xs ++ ys) → FormatsAt all first xs
formats_front all first [] ys h = tt
formats_front all first (x ∷ xs) ys h = (h.0, formats_front all (suc first) xs ys h.1)

pub formats_back : (all : List (List Part)) (first : ℕ) (xs ys : List (List Part)) → FormatsAt all first (xs ++ ys) → FormatsAt all (first + length xs) ys
formats_back all first [] ys h = let e : first ≡ first + 0 = omega arith in subst (λ r. FormatsAt all r ys) e h
formats_back all first (x ∷ xs) ys h =
    let e : suc first + length xs ≡ first + suc (length xs) = omega arith in
    subst (λ r. FormatsAt all r ys) e (formats_back all (suc first) xs ys h.1)
