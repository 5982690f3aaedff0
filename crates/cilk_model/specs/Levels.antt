-- The nesting level of each token: the level behind it.
use Rattle.std.specs.Prelude.{ℕ, suc, Bool, true, false, not, ◌&&◌, ◌||◌, ◌==◌, nat_lt, if◌then◌else◌, List, [], ◌∷◌, length, is_some}
use Rattle.cilk_model.specs.Lexemes.{Lexeme}
use Rattle.cilk_model.specs.Tests.{is_mark, is_word, is_name, starts, prefix_of, infix_of}

-- The greatest level that a token may have.
abbrev pub level_limit : ℕ
level_limit = 64

-- What a bracket is round: statements, the head of a `cilk_for` of which so many `;` have come, or anything else.
pub data Inside : Type 0 where
  statements : Inside
  head : ℕ → Inside
  other : Inside

-- An open bracket, and the level before it.
pub record Bracket : Type 0 where
  pub outside : ℕ
  pub inside : Inside

-- Where a text has come to: the level, the open brackets, innermost first, and the tokens so far, last first.
pub record Nesting : Type 0 where
  pub level : ℕ
  pub brackets : List Bracket
  pub before : List Lexeme

abbrev pub outermost : Nesting
outermost = record { level = 0; brackets = []; before = [] }

-- ---- Where it stands

-- The level at which whatever the innermost bracket is round starts: one for each open bracket.
abbrev pub start_level : List Bracket → ℕ
start_level brackets = length brackets

abbrev pub is_statements : Inside → Bool
is_statements statements = true
is_statements _ = false

abbrev pub is_head : ℕ → Inside → Bool
is_head count (head n) = n == count
is_head count _ = false

-- Statements or items stand here.
abbrev pub among_statements : List Bracket → Bool
among_statements [] = true
among_statements (b ∷ around) = is_statements b.inside

-- The head of a `cilk_for`, behind so many of its `;`, stands here.
abbrev pub in_head : ℕ → List Bracket → Bool
in_head count [] = false
in_head count (b ∷ around) = is_head count b.inside

-- The two tokens before the next one, the last one first, pass the tests.
abbrev pub behind_two : (Lexeme → Bool) → (Lexeme → Bool) → List Lexeme → Bool
behind_two last other_ (t ∷ u ∷ before) = last t && other_ u
behind_two last other_ _ = false

-- ---- Tokens that add nothing, though others spelled alike do

-- The `*` of a declarator, a result or a cast: behind `long`, or behind the `,` of a declaration.
abbrev pub is_declaring : Nesting → Lexeme → Bool
is_declaring here t =
    is_mark "*" t && (starts (is_word "long") here.before && not (in_head 0 here.brackets)
    || starts (is_mark ",") here.before && among_statements here.brackets)

-- The `<` of a `cilk_for`, behind the name at the start of its test.
abbrev pub is_bounding : Nesting → Lexeme → Bool
is_bounding here t = is_mark "<" t && in_head 1 here.brackets && behind_two is_name (is_mark ";") here.before

-- The `&` before the name of a replicated global.
abbrev pub is_naming : Nesting → Lexeme → Bool
is_naming here t = is_mark "&" t && behind_two (is_mark "(") (is_word "mw_replicated_init") here.before

-- The `)` of a cast is next.
abbrev pub ends_cast : Nesting → Bool
ends_cast here = starts (is_word "long") here.before || behind_two (is_mark "*") (is_word "long") here.before

-- ---- What a token does

abbrev pub opens : Lexeme → Bool
opens t = is_mark "(" t || is_mark "[" t || is_mark "{" t

abbrev pub closes : Lexeme → Bool
closes t = is_mark ")" t || is_mark "]" t || is_mark "}" t

-- Operators, and the words of statements that have a part in brackets.
abbrev pub is_heavy : Lexeme → Bool
is_heavy t =
    is_some (prefix_of t) || is_some (infix_of t)
    || is_word "if" t || is_word "while" t || is_word "for" t || is_word "cilk_for" t

abbrev pub adds_one : Nesting → Lexeme → Bool
adds_one here t = is_heavy t && not (is_declaring here t || is_bounding here t || is_naming here t)

-- The level before the innermost bracket, and the brackets around it.
abbrev pub restored : List Bracket → ℕ
restored [] = 0
restored (b ∷ around) = b.outside

abbrev pub around : List Bracket → List Bracket
around [] = []
around (b ∷ bs) = bs

-- What a bracket that opens here is round.
abbrev pub opened : Nesting → Lexeme → Inside
opened here t = if is_mark "{" t then statements else (if starts (is_word "cilk_for") here.before then head 0 else other)

-- The brackets behind a `;`, which the head of a `cilk_for` counts.
abbrev pub one_more : Inside → Inside
one_more (head n) = head (suc n)
one_more inside = inside

abbrev pub counted : List Bracket → List Bracket
counted [] = []
counted (b ∷ around) = record { outside = b.outside; inside = one_more b.inside } ∷ around

abbrev pub brackets_after : Nesting → Lexeme → List Bracket
brackets_after here t =
    if opens t then record { outside = here.level; inside = opened here t } ∷ here.brackets
    else (if closes t then around here.brackets else (if is_mark ";" t then counted here.brackets else here.brackets))

-- The level behind a closing bracket. Behind a cast's one more; behind a `}` a new statement starts, unless an
-- `else` is next.
abbrev pub closed_level : Nesting → Lexeme → Bool → ℕ
closed_level here t else_next =
    if is_mark "}" t && not else_next then start_level (around here.brackets)
    else (if is_mark ")" t && ends_cast here then suc (restored here.brackets) else restored here.brackets)

-- The level behind a token, where an `else` is next or is not.
abbrev pub level_after : Nesting → Lexeme → Bool → ℕ
level_after here t else_next =
    if opens t then suc here.level
    else (if closes t then closed_level here t else_next
    else (if is_mark "," t || (is_mark ";" t && not else_next) then start_level here.brackets
    else (if adds_one here t then suc here.level else here.level)))

abbrev pub after : Nesting → Lexeme → Bool → Nesting
after here t else_next = record { level = level_after here t else_next; brackets = brackets_after here t; before = t ∷ here.before }

-- ---- A row of tokens

-- The level of each token, from a place on.
abbrev pub levels_from : Nesting → List Lexeme → List ℕ
levels_from here [] = []
levels_from here (t ∷ ts) = let next = after here t (starts (is_word "else") ts) in next.level ∷ levels_from next ts

abbrev pub levels : List Lexeme → List ℕ
levels ts = levels_from outermost ts

-- The rest of the tokens from the first one on that is too deep.
abbrev pub deep_from : Nesting → List Lexeme → List Lexeme
deep_from here [] = []
deep_from here (t ∷ ts) =
    let next = after here t (starts (is_word "else") ts) in
    if nat_lt level_limit next.level then t ∷ ts else deep_from next ts

abbrev pub deep_part : List Lexeme → List Lexeme
deep_part ts = deep_from outermost ts

-- The tokens before it.
abbrev pub shallow_from : Nesting → List Lexeme → List Lexeme
shallow_from here [] = []
shallow_from here (t ∷ ts) =
    let next = after here t (starts (is_word "else") ts) in
    if nat_lt level_limit next.level then [] else t ∷ shallow_from next ts

abbrev pub shallow_part : List Lexeme → List Lexeme
shallow_part ts = shallow_from outermost ts
