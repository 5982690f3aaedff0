-- What the walk over a text keeps, and one piece more.
use Rattle.std.proofs.Common.{◌≡◌, ℕ, ◌+◌, ◌-◌, ◌<◌, ◌≤◌, List, [], ◌∷◌, ◌++◌, length, take, drop, ◌==◌, ap, sym, ◌∙◌, subst, arith, length-take, length-drop}
use Rattle.std.proofs.lemmas.Bool.{cond_both}
use Rattle.std.proofs.lemmas.List.{take_rest}
use Rattle.word_ops.specs.declared.place.Pos.{Pos}
use Rattle.cilk_ast.specs.declared.token.Token.{Token}
use Rattle.cilk_ast.specs.declared.token.TokenKind.{TokenKind}
use Rattle.cilk_ast.specs.declared.fault.FaultKind.{FaultKind}
use Rattle.cilk_model.specs.declared.lexing.Piece.{Piece}
use Rattle.cilk_model.specs.declared.lexing.Piece.TheVariants.{Skipped, Found, Bad}
use Rattle.cilk_model.specs.declared.lexing.Spot.{Spot}
use Rattle.cilk_model.specs.Pieces.{piece_at}
use Rattle.cilk_model.specs.Tokens.{next_spot, moved, behind, ahead, token, Cut, skipped, found, LexicalFault, cut_short}
use Rattle.cilk_model.proofs.PieceBounds.{Within}
use Rattle.cilk_model.proofs.OneCut.{piece_in_text, ahead-at}

-- a place whose line and column fit, before so many bytes
abbrev pub IsPlaced : Spot → Type 0
IsPlaced spot = (spot.pos.line + spot.pos.column ≤ spot.at + 2) × (1 ≤ spot.pos.column)

-- what the walk keeps
abbrev pub IsWalked : List ℕ → List Token → Spot → Type 0
IsWalked text tokens spot = Cut text tokens spot × (spot.at ≤ length text) × (spot.pos.line + spot.pos.column ≤ spot.at + 2) × (1 ≤ spot.pos.column)

-- what stands behind a spot, as a slice gives it
abbrev pub rest_at : List ℕ → Spot → List ℕ
rest_at text spot = take (length text - spot.at) (drop spot.at text)

next_placed : (spot : Spot) (b : ℕ) → IsPlaced spot → IsPlaced (next_spot spot b)
next_placed spot b is = (
  cond_both (b == 10) _ _ (λ (p : Pos). p.line + p.column ≤ spot.at + 1 + 2) (λ _. omega (arith, is.0, is.1)) (λ _. omega (arith, is.0, is.1)),
  cond_both (b == 10) _ _ (λ (p : Pos). 1 ≤ p.column) (λ _. omega arith) (λ _. omega arith),
)

moved_placed : (spot : Spot) (bs : List ℕ) → IsPlaced spot → IsPlaced (moved spot bs)
moved_placed spot [] is = is
moved_placed spot (b ∷ bs) is = moved_placed (next_spot spot b) bs (next_placed spot b is)

-- the piece behind a spot lies in the text
pub fits : (text : List ℕ) (spot : Spot) (it : Piece) → spot.at < length text → it ≡ piece_at spot.fresh (rest_at text spot) → Within (length text - spot.at) it
fits text spot it below is =
    let some : 0 < length (behind text spot) = omega (arith, length-drop spot.at text, below) in
    let same : piece_at spot.fresh (behind text spot) ≡ it = sym (is ∙ ap (piece_at spot.fresh) (take_rest text spot.at)) in
    rw (← length-drop spot.at text) (subst (Within (length (behind text spot))) same (piece_in_text text spot some))

-- a slice of so many bytes has them
pub slice_fits : (text : List ℕ) (spot : Spot) (n : ℕ) → n ≤ length text - spot.at → n ≡ length (take n (rest_at text spot))
slice_fits text spot n within = omega (arith, length-take n (rest_at text spot), ap length (take_rest text spot.at), length-drop spot.at text)

-- the spot behind a piece
pub to_ahead : (text : List ℕ) (spot to : Spot) (n : ℕ) → to ≡ moved spot (take n (rest_at text spot)) → to ≡ ahead text spot n
to_ahead text spot to n e = e ∙ ap (λ r. moved spot (take n r)) (take_rest text spot.at)

pub to-at : (text : List ℕ) (spot to : Spot) (n : ℕ) → to ≡ moved spot (take n (rest_at text spot)) → n ≤ length text - spot.at → to.at ≡ spot.at + n
to-at text spot to n e within =
    let there : n ≤ length (behind text spot) = omega (arith, length-drop spot.at text, within) in
    ap (λ s. s.at) (to_ahead text spot to n e) ∙ ahead-at text spot n there

walked_to : (text : List ℕ) (tokens : List Token) (spot to : Spot) (n : ℕ) → spot.at ≤ length text → IsPlaced spot →
    to ≡ moved spot (take n (rest_at text spot)) → n ≤ length text - spot.at → Cut text tokens (ahead text spot n) → IsWalked text tokens to
walked_to text tokens spot to n below placed e within cut =
    let at : to.at ≡ spot.at + n = to-at text spot to n e within in
    let is : IsPlaced to = subst IsPlaced (sym e) (moved_placed spot (take n (rest_at text spot)) placed) in
    (subst (Cut text tokens) (sym (to_ahead text spot to n e)) cut, omega (arith, at, within, below), is.0, is.1)

pub walked_skipped : (text : List ℕ) (tokens : List Token) (spot to : Spot) (n : ℕ) → IsWalked text tokens spot → Skipped n ≡ piece_at spot.fresh (rest_at text spot) →
    to ≡ moved spot (take n (rest_at text spot)) → n ≤ length text - spot.at → IsWalked text tokens to
walked_skipped text tokens spot to n is piece e within =
    walked_to text tokens spot to n is.1 (is.2, is.3) e within (skipped n is.0 (sym (piece ∙ ap (piece_at spot.fresh) (take_rest text spot.at))))

pub walked_found : (text : List ℕ) (tokens : List Token) (spot to : Spot) (kind : TokenKind) (n : ℕ) → IsWalked text tokens spot → Found kind n ≡ piece_at spot.fresh (rest_at text spot) →
    to ≡ moved spot (take n (rest_at text spot)) → n ≤ length text - spot.at → IsWalked text (tokens ++ token kind spot n ∷ []) to
walked_found text tokens spot to kind n is piece e within =
    walked_to text (tokens ++ token kind spot n ∷ []) spot to n is.1 (is.2, is.3) e within (found kind n is.0 (sym (piece ∙ ap (piece_at spot.fresh) (take_rest text spot.at))))

pub walked_bad : (text : List ℕ) (tokens : List Token) (spot to : Spot) (kind : FaultKind) (n : ℕ) → IsWalked text tokens spot → Bad kind n ≡ piece_at spot.fresh (rest_at text spot) →
    to ≡ moved spot (take n (rest_at text spot)) → LexicalFault text (record { pos = to.pos; kind = kind })
walked_bad text tokens spot to kind n is piece e =
    subst (λ s. LexicalFault text (record { pos = s.pos; kind = kind })) (sym (to_ahead text spot to n e))
    (cut_short spot kind n is.0 (sym (piece ∙ ap (piece_at spot.fresh) (take_rest text spot.at))))
