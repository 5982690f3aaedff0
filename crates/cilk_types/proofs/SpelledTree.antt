-- A tree that a text spells is within it: each token takes at least a byte of the text.
use Rattle.std.proofs.Common.{◌≡◌, ℕ, suc, ◌+◌, ◌<◌, ◌≤◌, ◌^◌, List, [], ◌∷◌, length, take, subst, arith, length-append, length-take, length-drop, Bool}
use Rattle.std.proofs.lemmas.List.{length-map}
use Rattle.cilk_ast.specs.declared.token.Token.{Token}
use Rattle.cilk_ast.specs.declared.token.TokenKind.{TokenKind}
use Rattle.cilk_ast.specs.declared.tree.Tree.{Tree}
use Rattle.cilk_model.specs.declared.lexing.Piece.TheVariants.{Found}
use Rattle.cilk_model.specs.declared.lexing.Spot.{Spot}
use Rattle.cilk_model.specs.Lexemes.{lexeme_of}
use Rattle.cilk_model.specs.Pieces.{piece_at}
use Rattle.cilk_model.specs.Texts.{SpellsTree}
use Rattle.cilk_model.specs.Tokens.{behind, ahead, Cut, uncut, skipped, found, Tokens, cut_whole}
use Rattle.cilk_model.proofs.PieceBounds.{Within, piece_within}
use Rattle.cilk_model.proofs.TextWalk.{moved-at}
use Rattle.cilk_types.specs.Marks.{IsWithinText}
use Rattle.cilk_types.proofs.SpelledMarks.{marked}

-- ---- pieces and tokens

-- a piece that is a token has a byte, and lies within the text
token_within : (fresh : Bool) (kind : TokenKind) (n : ℕ) (text : List ℕ) → piece_at fresh text ≡ Found kind n → (0 < n) × (n ≤ length text)
token_within fresh kind n [] is = absurd cc
token_within fresh kind n (b ∷ bs) is = subst (Within (suc (length bs))) is (piece_within fresh b bs)

-- the place behind bytes of a text
ahead_at : (text : List ℕ) (spot : Spot) (n : ℕ) → (ahead text spot n).at ≤ spot.at + n
ahead_at text spot n = omega (arith, moved-at spot (take n (behind text spot)), length-take n (behind text spot))

passed_at : (text : List ℕ) (spot : Spot) (n : ℕ) → spot.at ≤ length text → (ahead text spot n).at ≤ length text
passed_at text spot n within =
    omega (arith, moved-at spot (take n (behind text spot)), length-take n (behind text spot), length-drop spot.at text)

-- the place behind a token
found_at : (text : List ℕ) (spot : Spot) (n : ℕ) → 0 < n → n ≤ length (behind text spot) → suc spot.at ≤ (ahead text spot n).at
found_at text spot n some fits = omega (arith, moved-at spot (take n (behind text spot)), length-take n (behind text spot))

-- up to a spot there are no more tokens than bytes, and the spot is within the text
record Passed (text : List ℕ) (tokens : List Token) (spot : Spot) : Type 0 where
  few : length tokens ≤ spot.at
  within : spot.at ≤ length text

passed : {text : List ℕ} {tokens : List Token} {spot : Spot} → Cut text tokens spot → Passed text tokens spot
passed uncut = record { few = omega arith; within = omega arith }
passed {text} (skipped {tokens} {spot} n cut is) =
    let h = passed cut in
    let e = moved-at spot (take n (behind text spot)) in
    record { few = omega (arith, h.few, e); within = passed_at text spot n h.within }
passed {text} (found {tokens} {spot} kind n cut is) =
    let h = passed cut in
    let fits = token_within spot.fresh kind n (behind text spot) is in
    let more = found_at text spot n fits.0 fits.1 in
    record { few = simp length-append (omega (arith, h.few)); within = passed_at text spot n h.within }

-- a text has no more tokens than bytes, besides the end
tokens_within : {text : List ℕ} {tokens : List Token} → Tokens text tokens → length tokens ≤ suc (length text)
tokens_within (cut_whole {tokens} spot cut ended) = let h = passed cut in simp length-append (omega (arith, h.few, h.within))

-- ---- the tree

pub spelled_is_within : (text : List ℕ) (tree : Tree) → SpellsTree text tree → length text ≤ 2 ^ 20 → IsWithinText tree
spelled_is_within text tree is short =
    let few = marked is.spelled.spells in
    let many = tokens_within is.are_tokens in
    let same = length-map is.tokens (lexeme_of text) in
    omega arith
