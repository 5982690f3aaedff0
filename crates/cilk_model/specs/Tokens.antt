-- The tokens of a text, and its first lexical fault.
use Rattle.std.specs.Prelude.{◌≡◌, ℕ, ◌+◌, List, [], ◌∷◌, ◌++◌, take, drop, true, ◌&&◌, ◌||◌, ◌==◌, if◌then◌else◌}
use Rattle.word_ops.specs.declared.place.Pos.{Pos}
use Rattle.cilk_ast.specs.declared.token.Token.{Token}
use Rattle.cilk_ast.specs.declared.token.TokenKind.{TokenKind}
use Rattle.cilk_ast.specs.declared.token.TokenKind.TheVariants.{Finish}
use Rattle.cilk_ast.specs.declared.fault.FaultKind.{FaultKind}
use Rattle.cilk_ast.specs.declared.fault.TextFault.{TextFault}
use Rattle.cilk_ast.specs.declared.fault.TextRefusal.{TextRefusal}
use Rattle.cilk_ast.specs.declared.fault.TextRefusal.TheVariants.{Fault, OutOfMemory}
use Rattle.cilk_model.specs.declared.lexing.Piece.TheVariants.{Skipped, Found, Bad}
use Rattle.cilk_model.specs.declared.lexing.Spot.{Spot}
use Rattle.cilk_model.specs.Bytes.{is_space}
use Rattle.cilk_model.specs.Pieces.{piece_at}

-- The place behind a byte: columns count bytes from 1, and a line ends after its newline.
abbrev pub next_pos : Pos → ℕ → Pos
next_pos pos b = if b == 10 then record { line = pos.line + 1; column = 1 } else record { line = pos.line; column = pos.column + 1 }

-- The spot at the start of a text, the one behind a byte, and the one behind several bytes.
abbrev pub first_spot : Spot
first_spot = record { at = 0; pos = record { line = 1; column = 1 }; fresh = true }

abbrev pub next_spot : Spot → ℕ → Spot
next_spot spot b = record { at = spot.at + 1; pos = next_pos spot.pos b; fresh = b == 10 || (spot.fresh && is_space b) }

abbrev pub moved : Spot → List ℕ → Spot
moved spot [] = spot
moved spot (b ∷ bs) = moved (next_spot spot b) bs

-- What stands behind a spot, and the spot that stands so many bytes behind it.
abbrev pub behind : List ℕ → Spot → List ℕ
behind text spot = drop spot.at text

abbrev pub ahead : List ℕ → Spot → ℕ → Spot
ahead text spot n = moved spot (take n (behind text spot))

-- A token of so many bytes at a spot.
abbrev pub token : TokenKind → Spot → ℕ → Token
token kind spot n = record { kind = kind; start = spot.at; stop = spot.at + n; pos = spot.pos }

-- A text is cut from the left, each time at the longest piece: the tokens up to a spot.
pub data Cut (text : List ℕ) : List Token → Spot → Type 0 where
  uncut : Cut text [] first_spot
  skipped : {tokens : List Token} {spot : Spot} (n : ℕ) → Cut text tokens spot →
      piece_at spot.fresh (behind text spot) ≡ Skipped n → Cut text tokens (ahead text spot n)
  found : {tokens : List Token} {spot : Spot} (kind : TokenKind) (n : ℕ) → Cut text tokens spot →
      piece_at spot.fresh (behind text spot) ≡ Found kind n → Cut text (tokens ++ token kind spot n ∷ []) (ahead text spot n)

-- The tokens of a text: those up to its end, and Finish there.
pub data Tokens (text : List ℕ) : List Token → Type 0 where
  cut_whole : {tokens : List Token} (spot : Spot) → Cut text tokens spot → behind text spot ≡ [] →
      Tokens text (tokens ++ token Finish spot 0 ∷ [])

-- The first lexical fault of a text: where a piece is met that is none.
pub data LexicalFault (text : List ℕ) : TextFault → Type 0 where
  cut_short : {tokens : List Token} (spot : Spot) (kind : FaultKind) (n : ℕ) → Cut text tokens spot →
      piece_at spot.fresh (behind text spot) ≡ Bad kind n → LexicalFault text (record { pos = (ahead text spot n).pos; kind = kind })

-- Why a text gave no tokens: its first lexical fault, or want of memory.
abbrev pub RefusesTokens : List ℕ → TextRefusal → Type 0
RefusesTokens text (Fault fault) = LexicalFault text fault
RefusesTokens text OutOfMemory = Unit {0}
