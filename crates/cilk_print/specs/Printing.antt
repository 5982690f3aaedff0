-- A page with more on it.
use Rattle.std.specs.Prelude.{ℕ, List, [], ◌∷◌, map, flat_map, ◌++◌, Option, Some, None, Bool, true, false, not, ◌&&◌, ◌||◌}
use Rattle.cilk_model.specs.declared.layout.Page.{Page}
use Rattle.cilk_model.specs.Lexemes as lexeme
use Rattle.cilk_model.specs.Lexemes.{Lexeme, mark}
use Rattle.cilk_model.specs.Tests.{is_mark}
use Rattle.cilk_ast.specs.declared.kind.Kind.{Kind}
use Rattle.cilk_ast.specs.declared.tree.TExpr.{TExpr}
use Rattle.cilk_ast.specs.TreeExpression.{Index}
use Rattle.cilk_ast.specs.TreeStatement.{part_of}
use Rattle.cilk_ast.specs.declared.kind.Kind.TheVariants as kind
use Rattle.cilk_ast.specs.declared.tree.TStmt.{TStmt}
use Rattle.cilk_ast.specs.declared.tree.TSpawn.{TSpawn}
use Rattle.cilk_ast.specs.declared.tree.TValue.{TValue}
use Rattle.cilk_ast.specs.declared.tree.Param.{Param}
use Rattle.cilk_ast.specs.declared.tree.Item.{Item}
use Rattle.cilk_model.specs.Grammar.{Row}
use Rattle.cilk_model.specs.TreeTokens.{nowhere, name, word, star, expression, behind_commas, between_commas, in_brackets, perhaps, declared, spawn, origin, value, initial, simple, head, for_head, cilk_for_head, statement, result, parameter, replicated_word, item, mark as marked}
use Rattle.cilk_model.specs.Layout.{lead, is_tight, put, put_all}

-- Marks that open or close nothing, end no line, and have a blank before and behind them.
abbrev pub is_plain : List ℕ → Bool
is_plain spelling =
    let t = mark nowhere spelling in
    not (is_tight t || is_mark "{" t || is_mark "}" t || is_mark "(" t || is_mark "[" t)

-- What stands before a token that is not tight.
abbrev pub led : Page → Page
led page = record page { text = page.text ++ lead page.gap page.brackets (name []) }

-- Marks that open or close nothing, end no line, and have no blank before them: `,`, `]`, `++` and `--`.
abbrev pub is_only_tight : List ℕ → Bool
is_only_tight spelling =
    let t = mark nowhere spelling in
    is_tight t && not (is_mark ";" t || is_mark ")" t || is_mark "{" t || is_mark "}" t || is_mark "(" t || is_mark "[" t)

-- What stands before a token that is tight.
abbrev pub led_tight : Page → Page
led_tight page = record page { text = page.text ++ lead page.gap page.brackets (marked ";") }

-- ---- Expressions

-- A page with an expression, with arguments that have a comma before each, and with a comma between two.
unfoldable pub printed : Page → TExpr → Page
printed page e = put_all page (expression e)

unfoldable pub printed_behind : Page → List TExpr → Page
printed_behind page args = put_all page (behind_commas (map expression args))

unfoldable pub printed_between : Page → List TExpr → Page
printed_between page args = put_all page (between_commas (map expression args))

-- A page with the `*` of a kind.
unfoldable pub starred : Page → Kind → Page
starred page k = put_all page (star k)

-- A page with a reserved word that is called, and its bracket.
unfoldable pub called : Page → List ℕ → Page
called page spelling = put (put page (lexeme.word nowhere spelling)) (marked "(")

-- A page with `mw_replicated_init` of a global, up to its value.
unfoldable pub addressed : Page → List ℕ → Page
addressed page x = put_all page (word "mw_replicated_init" ∷ marked "(" ∷ marked "&" ∷ name x ∷ marked "," ∷ [])

abbrev pub is_indexed : TExpr → Bool
is_indexed (Index at base index) = true
is_indexed _ = false

-- An index in its brackets, and several of one base, the last one first.
abbrev pub in_square : TExpr → Row
in_square index = marked "[" ∷ (expression index ++ marked "]" ∷ [])

abbrev pub indexes_of : List TExpr → Row
indexes_of [] = []
indexes_of (index ∷ before) = indexes_of before ++ in_square index

unfoldable pub printed_indexes : Page → List TExpr → Page
printed_indexes page indexes = put_all page (indexes_of indexes)

-- ---- Statements

unfoldable pub bracketed : Page → TExpr → Page
bracketed page e = put_all page (in_brackets (expression e))

unfoldable pub printed_perhaps : Page → Option TExpr → Page
printed_perhaps page e = put_all page (perhaps e)

unfoldable pub printed_declared : Page → Kind → List ℕ → Page
printed_declared page k x = put_all page (declared k x)

unfoldable pub printed_spawn : Page → TSpawn → Page
printed_spawn page s = put_all page (spawn s)

-- A page with the word of a spawn, and its hint.
unfoldable pub printed_origin : Page → Option TExpr → Page
printed_origin page hint = put_all page (origin hint)

unfoldable pub printed_value : Page → TValue → Page
printed_value page v = put_all page (value v)

unfoldable pub printed_initial : Page → Option TValue → Page
printed_initial page v = put_all page (initial v)

-- A page with a statement without its `;`, with a part of the head of a `for`, and with that head.
unfoldable pub printed_simple : Page → TStmt → Page
printed_simple page s = put_all page (simple s)

unfoldable pub printed_part : Page → Option TStmt → Page
printed_part page part = put_all page (head (part_of part))

unfoldable pub printed_for_head : Page → Option TStmt → Option TExpr → Option TStmt → Page
printed_for_head page init test step = put_all page (word "for" ∷ in_brackets (for_head (part_of init) test (part_of step)))

-- A page with the bounds of a `cilk_for`, of which the first declares its variable.
unfoldable pub printed_low : Page → List ℕ → TExpr → Page
printed_low page i low = put_all page (declared kind.Long i ++ (marked "=" ∷ (expression low ++ marked ";" ∷ [])))

unfoldable pub printed_high : Page → List ℕ → TExpr → Page
printed_high page j high = put_all page (name j ∷ marked "<" ∷ (expression high ++ marked ";" ∷ []))

-- A page with the head of a `cilk_for` of a variable, whose name the test and the step have too.
unfoldable pub printed_cilk_for_head : Page → List ℕ → TExpr → List ℕ → TExpr → List ℕ → Page
printed_cilk_for_head page i low j high k = put_all page (word "cilk_for" ∷ in_brackets (cilk_for_head i low j high k))

unfoldable pub printed_statement : Page → TStmt → Page
printed_statement page s = put_all page (statement s)

-- A page with the `else` of an `if`, where there is one.
abbrev pub printed_else : Page → Option TStmt → Page
printed_else page None = page
printed_else page (Some s) = printed_statement (put page (word "else")) s

unfoldable pub printed_statements : Page → List TStmt → Page
printed_statements page body = put_all page (flat_map statement body)

-- ---- Items

unfoldable pub printed_result : Page → Kind → Page
printed_result page k = put_all page (result k)

unfoldable pub printed_param : Page → Param → Page
printed_param page p = put_all page (parameter p)

-- Parameters from one on that is not the first, and all.
unfoldable pub params_behind : Page → List Param → Page
params_behind page params = put_all page (behind_commas (map parameter params))

unfoldable pub params_between : Page → List Param → Page
params_between page params = put_all page (between_commas (map parameter params))

unfoldable pub printed_replicated : Page → Bool → Page
printed_replicated page replicated = put_all page (replicated_word replicated)

unfoldable pub printed_item : Page → Item → Page
printed_item page i = put_all page (item i)

unfoldable pub printed_items : Page → List Item → Page
printed_items page items = put_all page (flat_map item items)
