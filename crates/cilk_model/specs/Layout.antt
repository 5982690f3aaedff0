-- How tokens are laid out, one behind the other.
use Rattle.std.specs.Prelude.{ℕ, ◌-◌, List, [], ◌∷◌, ◌++◌, length, take, Bool, true, false, not, ◌&&◌, ◌||◌, if◌then◌else◌}
use Rattle.std.specs.Fmt.{signed_decimal}
use Rattle.std.specs.List.{list_any}
use Rattle.cilk_model.specs.declared.layout.Bracket.{Bracket}
use Rattle.cilk_model.specs.declared.layout.Bracket.TheVariants.{Brace, Round}
use Rattle.cilk_model.specs.declared.layout.Gap.{Gap}
use Rattle.cilk_model.specs.declared.layout.Gap.TheVariants.{Margin, Nothing, Blank}
use Rattle.cilk_model.specs.declared.layout.Page.{Page}
use Rattle.cilk_model.specs.Lexemes.{Lexeme, name, word, literal, text, mark, finish}
use Rattle.cilk_model.specs.Tests.{is_mark}

-- How a token is spelled: literals in decimal.
abbrev pub spelling : Lexeme → List ℕ
spelling (name at x) = x
spelling (word at x) = x
spelling (literal at value) = signed_decimal value
spelling (text at between) = 34 ∷ (between ++ 34 ∷ [])
spelling (mark at x) = x
spelling (finish at) = []

-- Two blanks for each `{` that is open.
abbrev pub margin : List Bracket → List ℕ
margin [] = []
margin (Brace ∷ open_) = 32 ∷ 32 ∷ margin open_
margin (Round ∷ open_) = margin open_

-- Marks that no blank stands before.
abbrev pub is_tight : Lexeme → Bool
is_tight t = is_mark ";" t || is_mark "," t || is_mark ")" t || is_mark "]" t || is_mark "++" t || is_mark "--" t

-- What stands before a token.
abbrev pub lead : Gap → List Bracket → Lexeme → List ℕ
lead Margin open_ t = margin open_
lead Nothing open_ t = []
lead Blank open_ t = if is_tight t then [] else 32 ∷ []

abbrev pub is_round : Bracket → Bool
is_round Round = true
is_round Brace = false

-- A line ends behind `{`, `}`, and each `;` outside round brackets.
abbrev pub ends_line : List Bracket → Lexeme → Bool
ends_line open_ t = is_mark "{" t || is_mark "}" t || (is_mark ";" t && not (list_any is_round open_))

-- The brackets without the innermost one.
abbrev pub without_last : List Bracket → List Bracket
without_last open_ = take (length open_ - 1) open_

-- The brackets that are open at a token, which a `}` closes before its line begins, and behind it.
abbrev pub open_at : List Bracket → Lexeme → List Bracket
open_at open_ t = if is_mark "}" t then without_last open_ else open_

abbrev pub open_behind : List Bracket → Lexeme → List Bracket
open_behind open_ t =
    if is_mark "{" t then open_ ++ Brace ∷ []
    else (if is_mark "(" t then open_ ++ Round ∷ []
    else (if is_mark ")" t then without_last open_ else open_))

-- What stands between a token and the next one.
abbrev pub gap_behind : List Bracket → Lexeme → Gap
gap_behind open_ t = if ends_line open_ t then Margin else (if is_mark "(" t || is_mark "[" t then Nothing else Blank)

-- The text with one more token.
unfoldable pub put : Page → Lexeme → Page
put page t =
    let here = open_at page.brackets t in
    let newline = if ends_line here t then 10 ∷ [] else [] in
    record {
      text = page.text ++ (lead page.gap here t ++ (spelling t ++ newline));
      brackets = open_behind here t;
      gap = gap_behind here t;
    }

-- The text with more tokens.
abbrev pub put_all : Page → List Lexeme → Page
put_all page [] = page
put_all page (t ∷ ts) = put_all (put page t) ts

-- The empty text.
abbrev pub blank_page : Page
blank_page = record { text = []; brackets = []; gap = Margin }
