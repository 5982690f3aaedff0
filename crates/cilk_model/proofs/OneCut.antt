-- Each text has tokens or a first lexical fault, and one of the two alone.
use Rattle.std.proofs.Common.{◌≡◌, ℕ, suc, zero, ◌+◌, ◌<◌, ◌≤◌, List, [], ◌∷◌, ◌++◌, length, take, drop, Ok, Err, refl, ap, sym, ◌∙◌, subst, arith, ◌⊎◌, inl, inr, drop-drop, length-drop, length-take, Bool}
use Rattle.std.proofs.lemmas.Bool.{cases_eq}
use Rattle.std.proofs.lemmas.List.{nil_from_length}
use Rattle.cilk_ast.specs.declared.token.Token.{Token}
use Rattle.cilk_ast.specs.declared.token.TokenKind.{TokenKind}
use Rattle.cilk_ast.specs.declared.fault.TextFault.{TextFault}
use Rattle.cilk_model.specs.declared.lexing.Piece.{Piece}
use Rattle.cilk_model.specs.declared.lexing.Piece.TheVariants.{Skipped, Found, Bad}
use Rattle.cilk_model.specs.declared.lexing.Spot.{Spot}
use Rattle.cilk_model.specs.Pieces.{piece_at}
use Rattle.cilk_model.specs.Tokens.{first_spot, moved, behind, ahead, token, Cut, uncut, skipped, found, Tokens, cut_whole, LexicalFault, cut_short}
use Rattle.cilk_model.proofs.PieceBounds.{Within, piece_within}
use Rattle.cilk_model.proofs.TextWalk.{walk, lexed, in_front, skipped_walk, found_walk, bad_walk, in_front_twice, none_in_front, moved-at}

-- a piece behind a spot lies in the text
pub piece_in_text : (text : List ℕ) (spot : Spot) → 0 < length (behind text spot) → Within (length (behind text spot)) (piece_at spot.fresh (behind text spot))
piece_in_text text spot some = go (behind text spot) some
  where
    go : (rest : List ℕ) → 0 < length rest → Within (length rest) (piece_at spot.fresh rest)
    go [] some = absurd (omega arith)
    go (b ∷ bs) some = piece_within spot.fresh b bs

-- the spot ahead of a piece, and what stands behind it
pub ahead-at : (text : List ℕ) (spot : Spot) (n : ℕ) → n ≤ length (behind text spot) → (ahead text spot n).at ≡ spot.at + n
ahead-at text spot n fits = moved-at spot (take n (behind text spot)) ∙ omega (arith, length-take n (behind text spot))

pub behind_ahead : (text : List ℕ) (spot : Spot) (n : ℕ) → n ≤ length (behind text spot) → behind text (ahead text spot n) ≡ drop n (behind text spot)
behind_ahead text spot n fits = ap (λ i. drop i text) (ahead-at text spot n fits) ∙ sym (drop-drop n spot.at text)

pub skipped_fits : (fresh : Bool) (n : ℕ) (rest : List ℕ) → piece_at fresh rest ≡ Skipped n → n ≤ length rest
skipped_fits fresh n [] is = let none : 0 ≡ n = cc in omega (arith, none)
skipped_fits fresh n (b ∷ bs) is = (subst (Within (suc (length bs))) is (piece_within fresh b bs)).1

pub found_fits : (fresh : Bool) (kind : TokenKind) (n : ℕ) (rest : List ℕ) → piece_at fresh rest ≡ Found kind n → n ≤ length rest
found_fits fresh kind n [] is = absurd cc
found_fits fresh kind n (b ∷ bs) is = (subst (Within (suc (length bs))) is (piece_within fresh b bs)).1

-- the walk goes on behind each cut
pub cut_walked : {text : List ℕ} {tokens : List Token} {spot : Spot} → Cut text tokens spot → in_front tokens (walk 0 spot (behind text spot)) ≡ lexed text
cut_walked {text} uncut = none_in_front (lexed text)
cut_walked {text} (skipped {tokens} {spot} n cut is) =
    let rest = behind text spot in
    ap (λ r. in_front tokens (walk 0 (ahead text spot n) r)) (behind_ahead text spot n (skipped_fits spot.fresh n rest is))
    ∙ ap (in_front tokens) (sym (skipped_walk spot n rest is)) ∙ cut_walked cut
cut_walked {text} (found {tokens} {spot} kind n cut is) =
    let rest = behind text spot in
    ap (λ r. in_front (tokens ++ token kind spot n ∷ []) (walk 0 (ahead text spot n) r)) (behind_ahead text spot n (found_fits spot.fresh kind n rest is))
    ∙ sym (in_front_twice tokens (token kind spot n ∷ []) (walk 0 (moved spot (take n rest)) (drop n rest)))
    ∙ ap (in_front tokens) (sym (found_walk spot kind n rest is)) ∙ cut_walked cut

-- the tokens of a text are what it gives, and so is its fault
pub tokens_lexed : {text : List ℕ} {tokens : List Token} → Tokens text tokens → lexed text ≡ Ok tokens
tokens_lexed (cut_whole {tokens} spot cut ends) = sym (cut_walked cut) ∙ ap (λ r. in_front tokens (walk 0 spot r)) ends

pub fault_lexed : {text : List ℕ} {fault : TextFault} → LexicalFault text fault → lexed text ≡ Err fault
fault_lexed {text} (cut_short {tokens} spot kind n cut is) = sym (cut_walked cut) ∙ ap (in_front tokens) (bad_walk spot kind n (behind text spot) is)

-- a text gives tokens, or a first fault
abbrev pub Lexes : List ℕ → Type 0
Lexes text = ((tokens : List Token) × Tokens text tokens) ⊎ ((fault : TextFault) × LexicalFault text fault)

by_piece : {text : List ℕ} {tokens : List Token} (spot : Spot) (it : Piece) → piece_at spot.fresh (behind text spot) ≡ it →
    Within (length (behind text spot)) it → Cut text tokens spot →
    ((more : List Token) (to : Spot) → length (behind text to) < length (behind text spot) → Cut text more to → Lexes text) → Lexes text
by_piece {text} {tokens} spot (Skipped n) is within cut next =
    next tokens (ahead text spot n) (rw (behind_ahead text spot n within.1) (omega (arith, length-drop n (behind text spot), within.0, within.1))) (skipped n cut is)
by_piece {text} {tokens} spot (Found kind n) is within cut next =
    next (tokens ++ token kind spot n ∷ []) (ahead text spot n) (rw (behind_ahead text spot n within.1) (omega (arith, length-drop n (behind text spot), within.0, within.1))) (found kind n cut is)
by_piece spot (Bad kind n) is within cut next = inr (_, cut_short spot kind n cut is)

at_end : {text : List ℕ} {tokens : List Token} (spot : Spot) → length (behind text spot) ≡ 0 → Cut text tokens spot → Lexes text
at_end {text} spot none cut = inl (_, cut_whole spot cut (nil_from_length (behind text spot) none))

lexes_from : (fuel : ℕ) {text : List ℕ} (tokens : List Token) (spot : Spot) → length (behind text spot) ≤ fuel → Cut text tokens spot → Lexes text
lexes_from zero tokens spot fits cut = at_end spot (omega arith) cut
lexes_from (suc fuel) {text} tokens spot fits cut = elim (cases_eq (length (behind text spot)) 0) [
  | inl none ↦ at_end spot none cut
  | inr some ↦ by_piece spot (piece_at spot.fresh (behind text spot)) refl (piece_in_text text spot (omega (arith, some))) cut (λ more to less c. lexes_from fuel more to (omega arith) c)
]

pub lexes : (text : List ℕ) → Lexes text
lexes text = lexes_from (length text) [] first_spot (omega arith) uncut

pub tokens_are_one : (text : List ℕ) (one other : List Token) → Tokens text one → Tokens text other → one ≡ other
tokens_are_one text one other is also =
    let e : Ok one ≡ Ok other = sym (tokens_lexed is) ∙ tokens_lexed also in cc

pub fault_is_one : (text : List ℕ) (one other : TextFault) → LexicalFault text one → LexicalFault text other → one ≡ other
fault_is_one text one other is also =
    let e : Err one ≡ Err other = sym (fault_lexed is) ∙ fault_lexed also in cc

pub not_both : (text : List ℕ) (tokens : List Token) (fault : TextFault) → Tokens text tokens → LexicalFault text fault → ⊥
not_both text tokens fault is also =
    let e : Ok tokens ≡ Err fault = sym (tokens_lexed is) ∙ fault_lexed also in cc

-- what a text gives are its tokens, or its fault
pub lexed_tokens : (text : List ℕ) (tokens : List Token) → lexed text ≡ Ok tokens → Tokens text tokens
lexed_tokens text tokens gives = elim (lexes text) [
  | inl is ↦ (let e : Ok is.0 ≡ Ok tokens = sym (tokens_lexed is.1) ∙ gives in let same : is.0 ≡ tokens = cc in subst (Tokens text) same is.1)
  | inr fault ↦ (let e : Err fault.0 ≡ Ok tokens = sym (fault_lexed fault.1) ∙ gives in absurd cc)
]

pub lexed_fault : (text : List ℕ) (fault : TextFault) → lexed text ≡ Err fault → LexicalFault text fault
lexed_fault text fault gives = elim (lexes text) [
  | inl is ↦ (let e : Ok is.0 ≡ Err fault = sym (tokens_lexed is.1) ∙ gives in absurd cc)
  | inr is ↦ (let e : Err is.0 ≡ Err fault = sym (fault_lexed is.1) ∙ gives in let same : is.0 ≡ fault = cc in subst (LexicalFault text) same is.1)
]
