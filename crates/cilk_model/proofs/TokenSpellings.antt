-- The tokens of a text lie in it, are spelled as their kinds demand, and end with the only Finish.
use Rattle.std.proofs.Common.{get_or, [], ◌∷◌, ◌≡◌, ◌≤◌, ◌+◌, ◌-◌, ℕ, List, length, take, true, false, refl, ap, ◌∙◌, subst, arith, length-drop}
use Rattle.std.specs.Prelude.{All}
use Rattle.std.proofs.lemmas.Grind.{common_steps}
use Rattle.std.proofs.lemmas.List.{map-append}
use Rattle.std.proofs.lemmas.List.Elements.{All-push, All-map}
use Rattle.word_ops.specs.declared.place.Pos.{Pos}
use Rattle.cilk_ast.specs.declared.token.Token.{Token}
use Rattle.cilk_ast.specs.declared.token.TokenKind.{TokenKind}
use Rattle.cilk_ast.specs.declared.token.TokenKind.TheVariants as kinds
use Rattle.cilk_ast.specs.declared.token.TokenKind.TheVariants.{Finish}
use Rattle.cilk_model.specs.declared.lexing.Piece.TheVariants.{Found}
use Rattle.cilk_model.specs.declared.lexing.Spot.{Spot}
use Rattle.cilk_model.specs.Lexemes.{spelling_of, lexeme, lexeme_of, lexemes_of}
use Rattle.cilk_model.specs.Pieces.{piece_at}
use Rattle.cilk_model.specs.Tokens.{behind, token, Cut, uncut, skipped, found, Tokens, cut_whole}
use Rattle.cilk_model.specs.Spellings.{is_spelled, is_finish, IsTokenOf, FinishIsLast}
use Rattle.cilk_model.proofs.PieceSpellings.{Spelled, piece_spelled}
use Rattle.cilk_model.proofs.OneCut.{ahead-at, skipped_fits, found_fits}

abbrev IsNoFinish : Token → Type 0
IsNoFinish t = is_finish t.kind ≡ false

cut_within : {text : List ℕ} {tokens : List Token} {spot : Spot} → Cut text tokens spot → spot.at ≤ length text
cut_within uncut = omega arith
cut_within {text} (skipped {tokens} {spot} n cut is) =
    let fits = skipped_fits spot.fresh n (behind text spot) is in
    omega (arith, ahead-at text spot n fits, fits, length-drop spot.at text, cut_within cut)
cut_within {text} (found {tokens} {spot} kind n cut is) =
    let fits = found_fits spot.fresh kind n (behind text spot) is in
    omega (arith, ahead-at text spot n fits, fits, length-drop spot.at text, cut_within cut)

-- the bytes of a token at a spot
spelled_at : (text : List ℕ) (kind : TokenKind) (spot : Spot) (n : ℕ) → spelling_of text (token kind spot n) ≡ take n (behind text spot)
spelled_at text kind spot n =
    let e : spot.at + n - spot.at ≡ n = omega arith in
    ap (λ k. take k (behind text spot)) e

token_of : (text : List ℕ) (kind : TokenKind) (spot : Spot) (n : ℕ) → spot.at ≤ length text → n ≤ length (behind text spot) →
    is_spelled kind (take n (behind text spot)) ≡ true → IsTokenOf text (token kind spot n)
token_of text kind spot n below fits is = record {
  ordered = omega arith;
  within = omega (arith, below, fits, length-drop spot.at text);
  spelled = ap (is_spelled kind) (spelled_at text kind spot n) ∙ is;
}

found_spelled : (text : List ℕ) (spot : Spot) (kind : TokenKind) (n : ℕ) → piece_at spot.fresh (behind text spot) ≡ Found kind n → Spelled (behind text spot) (Found kind n)
found_spelled text spot kind n is = subst (Spelled (behind text spot)) is (piece_spelled spot.fresh (behind text spot))

cut_spelled : {text : List ℕ} {tokens : List Token} {spot : Spot} → Cut text tokens spot → All (IsTokenOf text) tokens
cut_spelled uncut = grind (arith, common_steps)
cut_spelled (skipped n cut is) = cut_spelled cut
cut_spelled {text} (found {tokens} {spot} kind n cut is) =
    All-push (IsTokenOf text) tokens (token kind spot n) (cut_spelled cut)
    (token_of text kind spot n (cut_within cut) (found_fits spot.fresh kind n (behind text spot) is) (found_spelled text spot kind n is).0)

cut_unfinished : {text : List ℕ} {tokens : List Token} {spot : Spot} → Cut text tokens spot → All IsNoFinish tokens
cut_unfinished uncut = grind (arith, common_steps)
cut_unfinished (skipped n cut is) = cut_unfinished cut
cut_unfinished {text} (found {tokens} {spot} kind n cut is) =
    All-push IsNoFinish tokens (token kind spot n) (cut_unfinished cut) (found_spelled text spot kind n is).1

pub tokens_spelled : (text : List ℕ) (tokens : List Token) → Tokens text tokens → All (IsTokenOf text) tokens
tokens_spelled text tokens (cut_whole {tokens = front} spot cut ends) =
    All-push (IsTokenOf text) front (token Finish spot 0) (cut_spelled cut) (token_of text Finish spot 0 (cut_within cut) (omega arith) refl)

pub finish_is_last : (text : List ℕ) (tokens : List Token) → Tokens text tokens → FinishIsLast tokens
finish_is_last text tokens (cut_whole {tokens = front} spot cut ends) =
    record { front = front; last = token Finish spot 0; parts = refl; finish = refl; others = cut_unfinished cut }
