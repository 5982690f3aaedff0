-- What stands at the front of a text.
use Rattle.std.specs.Prelude.{ℕ, suc, ◌+◌, List, [], ◌∷◌, length, get_or, drop, take_while, Bool, false, not, ◌&&◌, ◌||◌, ◌==◌, nat_eq, if◌then◌else◌, Option, Some, None, option_map, codes}
use Rattle.std.specs.Char.{is_ascii_digit}
use Rattle.std.specs.List.{list_any, starts_with}
use Rattle.cilk_ast.specs.declared.token.TokenKind.TheVariants as kind
use Rattle.cilk_ast.specs.declared.fault.FaultKind.TheVariants as fault
use Rattle.cilk_model.specs.declared.lexing.Piece.{Piece}
use Rattle.cilk_model.specs.declared.lexing.Piece.TheVariants.{Skipped, Found, Bad}
use Rattle.cilk_model.specs.Bytes.{is_space, is_blank, is_in_line, is_run_byte, is_text_byte}
use Rattle.cilk_model.specs.Words.{is_one_of, word_piece, literal_piece}

-- A text begins with these bytes.
abbrev pub begins : List ℕ → List ℕ → Bool
begins front text = starts_with nat_eq text front

-- The longest run of letters, digits and `_` at the front.
abbrev pub run_of : List ℕ → List ℕ
run_of text = take_while is_run_byte text

-- How many bytes are left of the line.
abbrev pub line_length : List ℕ → ℕ
line_length text = length (take_while is_in_line text)

-- What stands behind the spaces and tabs at the front.
abbrev pub behind_spaces : List ℕ → List ℕ
behind_spaces text = drop (length (take_while is_space text)) text

-- `#`, with `include` or `pragma` behind it as a whole run.
abbrev pub is_directive : List ℕ → Bool
is_directive text = begins (codes "#") text && is_one_of (codes "include" ∷ codes "pragma" ∷ []) (run_of (behind_spaces (drop 1 text)))

-- How many bytes there are up to the first `*/` and with it.
abbrev pub comment_end : List ℕ → Option ℕ
comment_end [] = None
comment_end (b ∷ bs) = if begins (codes "*/") (b ∷ bs) then Some 2 else option_map suc (comment_end bs)

-- What begins with `/*`, by where its comment ends behind these two bytes.
abbrev pub comment_piece : Option ℕ → Piece
comment_piece None = Bad fault.OpenComment 0
comment_piece (Some n) = Skipped (n + 2)

-- A text literal, of which so many bytes stand before this place; `taken` says that the byte before is a
-- backslash that takes the next one with it.
abbrev pub text_piece : Bool → ℕ → List ℕ → Piece
text_piece taken n [] = Bad fault.OpenText 0
text_piece taken n (b ∷ bs) =
    if b == 10 then Bad fault.OpenText 0
    else (if not (is_text_byte b) then Bad fault.BadByte n
    else (if b == 34 && not taken then Found kind.Text (suc n)
    else text_piece (b == 92 && not taken) (suc n) bs))

-- A mark of two bytes: one of `<< >> == && || ++ --`, or one of `<= >= != +=`.
abbrev pub is_double_mark : ℕ → ℕ → Bool
is_double_mark b c = (b == c && list_any (nat_eq b) (codes "<>=&|+-")) || (c == 61 && list_any (nat_eq b) (codes "<>!+"))

-- A mark of one byte.
abbrev pub is_single_mark : ℕ → Bool
is_single_mark b = list_any (nat_eq b) (codes "+-*/%<>=!~&^|()[]{},;")

-- The longest mark at the front, or a byte that begins nothing.
abbrev pub mark_piece : List ℕ → Piece
mark_piece text =
    let first = get_or text 0 0 in
    if is_double_mark first (get_or text 1 0) then Found kind.Mark 2
    else (if is_single_mark first then Found kind.Mark 1 else Bad fault.BadByte 0)

-- A token at the front: a text literal, a literal, a word or a mark, the longest that fits.
abbrev pub token_piece : List ℕ → Piece
token_piece text =
    let first = get_or text 0 0 in
    if first == 34 then text_piece false 1 (drop 1 text)
    else (if is_ascii_digit first then literal_piece (run_of text)
    else (if is_run_byte first then word_piece (run_of text)
    else mark_piece text))

-- What stands at the front of a text; nothing at the front of the empty text. `fresh` says that only spaces and tabs
-- stand before it in its line.
abbrev pub piece_at : Bool → List ℕ → Piece
piece_at fresh [] = Skipped 0
piece_at fresh (b ∷ bs) =
    let text = b ∷ bs in
    if is_blank b then Skipped 1
    else (if (fresh && is_directive text) || begins (codes "//") text then Skipped (line_length text)
    else (if begins (codes "/*") text then comment_piece (comment_end (drop 2 text))
    else token_piece text))
