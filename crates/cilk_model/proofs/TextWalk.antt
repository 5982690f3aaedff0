-- A text walked byte by byte: what it gives is computed, and each text gives one thing.
use Rattle.std.proofs.Common.{◌≡◌, ℕ, suc, zero, ◌+◌, ◌-◌, ◌<◌, ◌≤◌, List, [], ◌∷◌, ◌++◌, length, take, drop, Result, Ok, Err, refl, ap, sym, ◌∙◌, subst, arith, append_assoc}
use Rattle.cilk_ast.specs.declared.token.Token.{Token}
use Rattle.cilk_ast.specs.declared.token.TokenKind.{TokenKind}
use Rattle.cilk_ast.specs.declared.token.TokenKind.TheVariants.{Finish}
use Rattle.cilk_ast.specs.declared.fault.FaultKind.{FaultKind}
use Rattle.cilk_ast.specs.declared.fault.TextFault.{TextFault}
use Rattle.cilk_model.specs.declared.lexing.Piece.{Piece}
use Rattle.cilk_model.specs.declared.lexing.Piece.TheVariants.{Skipped, Found, Bad}
use Rattle.cilk_model.specs.declared.lexing.Spot.{Spot}
use Rattle.cilk_model.specs.Pieces.{piece_at}
use Rattle.cilk_model.specs.Tokens.{first_spot, next_spot, moved, token}
use Rattle.cilk_model.proofs.PieceBounds.{Within, piece_within}

-- how many bytes a piece passes
abbrev pub size : Piece → ℕ
size (Skipped n) = n
size (Found kind n) = n
size (Bad kind n) = n

-- tokens before those that follow
abbrev pub in_front : List Token → Result (List Token) TextFault → Result (List Token) TextFault
in_front tokens (Ok more) = Ok (tokens ++ more)
in_front tokens (Err fault) = Err fault

-- a piece at a spot, before what follows it
abbrev pub with_piece : Piece → Spot → List ℕ → Result (List Token) TextFault → Result (List Token) TextFault
with_piece (Skipped n) spot rest more = more
with_piece (Found kind n) spot rest more = in_front (token kind spot n ∷ []) more
with_piece (Bad kind n) spot rest more = Err (record { pos = (moved spot (take n rest)).pos; kind = kind })

-- what a text gives from a spot on; the number counts what is left of the piece before
abbrev pub walk : ℕ → Spot → List ℕ → Result (List Token) TextFault
walk left spot [] = Ok (token Finish spot 0 ∷ [])
walk (suc left) spot (b ∷ bs) = walk left (next_spot spot b) bs
walk zero spot (b ∷ bs) =
    let it = piece_at spot.fresh (b ∷ bs) in
    with_piece it spot (b ∷ bs) (walk (size it - 1) (next_spot spot b) bs)

-- what a text gives: its tokens or its first fault
abbrev pub lexed : List ℕ → Result (List Token) TextFault
lexed text = walk 0 first_spot text

walk_passes : (n : ℕ) (spot : Spot) (bs : List ℕ) → n ≤ length bs → walk n spot bs ≡ walk 0 (moved spot (take n bs)) (drop n bs)
walk_passes zero spot bs fits = refl
walk_passes (suc n) spot [] fits = absurd (omega arith)
walk_passes (suc n) spot (b ∷ bs) fits = walk_passes n (next_spot spot b) bs (omega arith)

-- what follows the piece at the front
piece_passes : (n : ℕ) (spot : Spot) (b : ℕ) (bs : List ℕ) → 0 < n → n ≤ suc (length bs) →
    walk (n - 1) (next_spot spot b) bs ≡ walk 0 (moved spot (take n (b ∷ bs))) (drop n (b ∷ bs))
piece_passes zero spot b bs some fits = absurd (omega arith)
piece_passes (suc n) spot b bs some fits =
    let e : suc n - 1 ≡ n = omega arith in
    ap (λ k. walk k (next_spot spot b) bs) e ∙ walk_passes (suc n) spot (b ∷ bs) (omega arith)

-- a walk from a piece on
from_piece : (spot : Spot) (b : ℕ) (bs : List ℕ) (it : Piece) → piece_at spot.fresh (b ∷ bs) ≡ it →
    walk 0 spot (b ∷ bs) ≡ with_piece it spot (b ∷ bs) (walk (size it - 1) (next_spot spot b) bs)
from_piece spot b bs it is = ap (λ p. with_piece p spot (b ∷ bs) (walk (size p - 1) (next_spot spot b) bs)) is

pub skipped_walk : (spot : Spot) (n : ℕ) (rest : List ℕ) → piece_at spot.fresh rest ≡ Skipped n →
    walk 0 spot rest ≡ walk 0 (moved spot (take n rest)) (drop n rest)
skipped_walk spot n [] is =
    let none : 0 ≡ n = cc in
    ap (λ k. walk 0 (moved spot (take k [])) (drop k [])) none
skipped_walk spot n (b ∷ bs) is =
    let within = subst (Within (suc (length bs))) is (piece_within spot.fresh b bs) in
    from_piece spot b bs (Skipped n) is ∙ piece_passes n spot b bs within.0 within.1

pub found_walk : (spot : Spot) (kind : TokenKind) (n : ℕ) (rest : List ℕ) → piece_at spot.fresh rest ≡ Found kind n →
    walk 0 spot rest ≡ in_front (token kind spot n ∷ []) (walk 0 (moved spot (take n rest)) (drop n rest))
found_walk spot kind n [] is = absurd cc
found_walk spot kind n (b ∷ bs) is =
    let within = subst (Within (suc (length bs))) is (piece_within spot.fresh b bs) in
    from_piece spot b bs (Found kind n) is ∙ ap (in_front (token kind spot n ∷ [])) (piece_passes n spot b bs within.0 within.1)

pub bad_walk : (spot : Spot) (kind : FaultKind) (n : ℕ) (rest : List ℕ) → piece_at spot.fresh rest ≡ Bad kind n →
    walk 0 spot rest ≡ Err (record { pos = (moved spot (take n rest)).pos; kind = kind })
bad_walk spot kind n [] is = absurd cc
bad_walk spot kind n (b ∷ bs) is = from_piece spot b bs (Bad kind n) is

pub in_front_twice : (xs ys : List Token) (r : Result (List Token) TextFault) → in_front xs (in_front ys r) ≡ in_front (xs ++ ys) r
in_front_twice xs ys (Ok more) = ap Ok (sym (append_assoc xs ys more))
in_front_twice xs ys (Err fault) = refl

pub none_in_front : (r : Result (List Token) TextFault) → in_front [] r ≡ r
none_in_front (Ok more) = refl
none_in_front (Err fault) = refl

-- where a spot stands behind some bytes
pub moved-at : (spot : Spot) (bs : List ℕ) → (moved spot bs).at ≡ spot.at + length bs
moved-at spot [] = omega arith
moved-at spot (b ∷ bs) = moved-at (next_spot spot b) bs ∙ omega arith
