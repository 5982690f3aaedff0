-- A text that is cut into these tokens, whatever stands before it.
use Rattle.std.proofs.Common.{◌≡◌, ◌∙◌, ap, sym, subst, ℕ, ◌+◌, ◌-◌, Bool, List, [], ◌∷◌, ◌++◌, length, take, drop, arith, refl, append_assoc, length-append}
use Rattle.std.proofs.Math.Seq.{take-append_seam, drop-append_seam}
use Rattle.word_ops.specs.declared.place.Pos.{Pos}
use Rattle.cilk_ast.specs.declared.token.Token.{Token}
use Rattle.cilk_ast.specs.declared.token.TokenKind.{TokenKind}
use Rattle.cilk_ast.specs.declared.token.TokenKind.TheVariants.{Finish}
use Rattle.cilk_model.specs.declared.lexing.Piece.TheVariants.{Skipped, Found}
use Rattle.cilk_model.specs.declared.lexing.Spot.{Spot}
use Rattle.cilk_model.specs.Lexemes.{Lexeme, finish, lexeme, lexeme_of, lexemes_of, spelling_of}
use Rattle.cilk_model.specs.Pieces.{piece_at}
use Rattle.cilk_model.specs.Tokens.{first_spot, behind, ahead, token, Cut, uncut, skipped, found, Tokens, cut_whole}
use Rattle.cilk_model.specs.Grammar.{Row}
use Rattle.cilk_model.specs.TreeTokens.{nowhere}
use Rattle.cilk_model.proofs.OneCut.{behind_ahead}
use Rattle.cilk_print.proofs.Saying.{placed, Says, nothing_said, more_said}

pub data Runs : List ℕ → Row → Type 0 where
  runs_out : Runs [] []
  skips : {c : Row} (a rest : List ℕ) → ((fresh : Bool) → piece_at fresh (a ++ rest) ≡ Skipped (length a)) → Runs rest c → Runs (a ++ rest) c
  finds : {t : Lexeme} {c : Row} (a rest : List ℕ) (k : TokenKind) → ((fresh : Bool) → piece_at fresh (a ++ rest) ≡ Found k (length a)) →
      ((at : Pos) → lexeme k at a ≡ placed at t) → Runs rest c → Runs (a ++ rest) (t ∷ c)

-- the tokens of a text that goes on so behind a spot
pub record Lexed (text : List ℕ) (tokens : List Token) (c : Row) : Type 0 where
  pub after : List Token
  pub are_tokens : Tokens text (tokens ++ after)
  pub says : Says (c ++ finish nowhere ∷ []) (lexemes_of text after)

-- what stands behind a piece, and its bytes
beyond : (text : List ℕ) (spot : Spot) (a rest : List ℕ) → behind text spot ≡ a ++ rest → behind text (ahead text spot (length a)) ≡ rest
beyond text spot a rest e =
    behind_ahead text spot (length a) (omega (arith, ap length e, length-append a rest)) ∙ ap (drop (length a)) e ∙ drop-append_seam a rest

bytes_of : (text : List ℕ) (spot : Spot) (k : TokenKind) (a rest : List ℕ) → behind text spot ≡ a ++ rest → spelling_of text (token k spot (length a)) ≡ a
bytes_of text spot k a rest e =
    let n : spot.at + length a - spot.at ≡ length a = omega arith in
    ap (λ m. take m (behind text spot)) n ∙ ap (take (length a)) e ∙ take-append_seam a rest

with_token : (text : List ℕ) (tokens : List Token) (tk : Token) (t : Lexeme) (c : Row) (at : Pos) → lexeme_of text tk ≡ placed at t →
    Lexed text (tokens ++ tk ∷ []) c → Lexed text tokens (t ∷ c)
with_token text tokens tk t c at e l = record {
  after = tk ∷ l.after;
  are_tokens = subst (Tokens text) (append_assoc tokens (tk ∷ []) l.after) l.are_tokens;
  says = subst (λ u. Says (t ∷ (c ++ finish nowhere ∷ [])) (u ∷ lexemes_of text l.after)) (sym e) (more_said at l.says);
}

cut_on : (rest : List ℕ) (c : Row) → Runs rest c → (text : List ℕ) (tokens : List Token) (spot : Spot) → Cut text tokens spot → behind text spot ≡ rest → Lexed text tokens c
cut_on rest c runs_out text tokens spot cut e = record {
  after = token Finish spot 0 ∷ [];
  are_tokens = cut_whole spot cut e;
  says = more_said spot.pos nothing_said;
}
cut_on rest c (skips a more p r) text tokens spot cut e =
    cut_on more c r text tokens (ahead text spot (length a)) (skipped (length a) cut (ap (piece_at spot.fresh) e ∙ p spot.fresh)) (beyond text spot a more e)
cut_on rest c (finds {t} {c = ts} a more k p q r) text tokens spot cut e =
    with_token text tokens (token k spot (length a)) t ts spot.pos (ap (lexeme k spot.pos) (bytes_of text spot k a more e) ∙ q spot.pos)
    (cut_on more ts r text (tokens ++ token k spot (length a) ∷ []) (ahead text spot (length a)) (found k (length a) cut (ap (piece_at spot.fresh) e ∙ p spot.fresh)) (beyond text spot a more e))

pub relexed : (text : List ℕ) (c : Row) → Runs text c → Lexed text [] c
relexed text c r = cut_on text c r text [] first_spot uncut refl
