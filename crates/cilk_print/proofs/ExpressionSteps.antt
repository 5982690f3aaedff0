-- A page with an expression, by its form: the same with its parts, one after the other.
use Rattle.std.proofs.Common.{◌≡◌, ◌∙◌, ap, sym, ℕ, ℤ, ◌+◌, ◌<◌, ◌≤◌, List, [], ◌∷◌, ◌++◌, map, length, get_or, drop, refl, codes}
use Rattle.std.proofs.lemmas.List.{at_drop_more, at_drop_all, nil_from_length}
use Rattle.word_ops.specs.declared.place.Pos.{Pos}
use Rattle.word_ops.specs.declared.operators.BinaryOp.{BinaryOp}
use Rattle.word_ops.specs.declared.operators.UnaryOp.{UnaryOp}
use Rattle.cilk_ast.specs.declared.kind.Kind.{Kind}
use Rattle.cilk_ast.specs.declared.builtin.Builtin.{Builtin}
use Rattle.cilk_ast.specs.declared.tree.TExpr as code
use Rattle.cilk_ast.specs.declared.tree.TExpr.TheBlock.{shape-the_row-TExpr-0, hidden-the_row-TExpr-0, hidden-the_row-TExpr-1}
use Rattle.cilk_ast.specs.declared.tree.TExpr.{TExpr}
use Rattle.cilk_model.specs.declared.layout.Page.{Page}
use Rattle.cilk_model.specs.Lexemes as lexeme
use Rattle.cilk_model.specs.Lexemes.{Lexeme}
use Rattle.cilk_model.specs.Signs.{prefix_spelling, binary, infix_spelling, builtin_spelling}
use Rattle.cilk_model.specs.Grammar.{Row}
use Rattle.cilk_model.specs.TreeTokens.{nowhere, word, mark, name, prefix, star, expression, arguments, behind_commas, between_commas}
use Rattle.cilk_model.specs.Layout.{put, put_all}
use Rattle.cilk_print.specs.Printing.{printed, printed_behind, printed_between, starred, called, addressed, bracketed}
use Rattle.cilk_print.proofs.FormTokens.{argument_rows}
use Rattle.cilk_print.proofs.Pages.{put_all_append}
use denote.Hole.Carrier.{hidden}

pub printed_number : (page : Page) (at : Pos) (value : ℤ) → printed page (code.Number at value) ≡ put page (lexeme.literal nowhere value)
unfolding printed
printed_number page at value = refl

pub printed_var : (page : Page) (at : Pos) (x : List ℕ) → printed page (code.Var at x) ≡ put page (name x)
unfolding printed
printed_var page at x = refl

-- tokens, and one more behind them
then_one : (page : Page) (a : Row) (t : Lexeme) → put_all page (a ++ t ∷ []) ≡ put (put_all page a) t
then_one page a t = put_all_append page a (t ∷ [])

pub bracketed_step : (page : Page) (e : TExpr) → bracketed page e ≡ put (printed (put page (mark "(")) e) (mark ")")
unfolding bracketed printed
bracketed_step page e = then_one (put page (mark "(")) (expression e) (mark ")")

pub printed_paren : (page : Page) (at : Pos) (inner : TExpr) → printed page (code.Paren at inner) ≡ bracketed page inner
unfolding printed bracketed shape-the_row-TExpr-0 hidden-the_row-TExpr-0 hidden
printed_paren page at inner = refl

pub printed_un : (page : Page) (at : Pos) (o : UnaryOp) (inner : TExpr) →
    printed page (code.Un at o inner) ≡ printed (put page (mark (prefix_spelling (prefix o)))) inner
unfolding printed shape-the_row-TExpr-0 hidden-the_row-TExpr-0 hidden
printed_un page at o inner = refl

pub printed_deref : (page : Page) (at : Pos) (inner : TExpr) → printed page (code.Deref at inner) ≡ printed (put page (mark "*")) inner
unfolding printed shape-the_row-TExpr-0 hidden-the_row-TExpr-0 hidden
printed_deref page at inner = refl

pub printed_cast : (page : Page) (at : Pos) (k : Kind) (inner : TExpr) →
    printed page (code.Cast at k inner) ≡ printed (put (starred (put (put page (mark "(")) (word "long")) k) (mark ")")) inner
unfolding printed starred shape-the_row-TExpr-0 hidden-the_row-TExpr-0 hidden
printed_cast page at k inner =
    let opened = put (put page (mark "(")) (word "long") in
    put_all_append opened (star k ++ mark ")" ∷ []) (expression inner)
    ∙ ap (λ p. put_all p (expression inner)) (then_one opened (star k) (mark ")"))

pub printed_index : (page : Page) (at : Pos) (base index : TExpr) →
    printed page (code.Index at base index) ≡ put (printed (put (printed page base) (mark "[")) index) (mark "]")
unfolding printed shape-the_row-TExpr-0 hidden-the_row-TExpr-0 hidden
printed_index page at base index =
    put_all_append page (expression base) (mark "[" ∷ (expression index ++ mark "]" ∷ []))
    ∙ then_one (put (put_all page (expression base)) (mark "[")) (expression index) (mark "]")

pub printed_bin : (page : Page) (at : Pos) (o : BinaryOp) (left right : TExpr) →
    printed page (code.Bin at o left right) ≡ printed (put (printed page left) (mark (infix_spelling (binary o)))) right
unfolding printed shape-the_row-TExpr-0 hidden-the_row-TExpr-0 hidden
printed_bin page at o left right = put_all_append page (expression left) (mark (infix_spelling (binary o)) ∷ expression right)

pub printed_both : (page : Page) (at : Pos) (left right : TExpr) →
    printed page (code.Both at left right) ≡ printed (put (printed page left) (mark "&&")) right
unfolding printed shape-the_row-TExpr-0 hidden-the_row-TExpr-0 hidden
printed_both page at left right = put_all_append page (expression left) (mark "&&" ∷ expression right)

pub printed_either : (page : Page) (at : Pos) (left right : TExpr) →
    printed page (code.Either at left right) ≡ printed (put (printed page left) (mark "||")) right
unfolding printed shape-the_row-TExpr-0 hidden-the_row-TExpr-0 hidden
printed_either page at left right = put_all_append page (expression left) (mark "||" ∷ expression right)

-- ---- Forms with arguments

pub printed_call : (page : Page) (at : Pos) (f : List ℕ) (args : List TExpr) →
    printed page (code.Call at f args) ≡ put (printed_between (put (put page (name f)) (mark "(")) args) (mark ")")
unfolding printed printed_between
printed_call page at f args =
    let opened = put (put page (name f)) (mark "(") in
    then_one opened (between_commas (arguments (hidden-the_row-TExpr-1 args))) (mark ")")
    ∙ ap (λ rows. put (put_all opened (between_commas rows)) (mark ")")) (argument_rows args)

pub printed_builtin : (page : Page) (at : Pos) (which : Builtin) (args : List TExpr) →
    printed page (code.Builtin at which args) ≡ put (printed_between (called page (codes (builtin_spelling which))) args) (mark ")")
unfolding printed printed_between called
printed_builtin page at which args =
    let opened = put (put page (word (builtin_spelling which))) (mark "(") in
    then_one opened (between_commas (arguments (hidden-the_row-TExpr-1 args))) (mark ")")
    ∙ ap (λ rows. put (put_all opened (between_commas rows)) (mark ")")) (argument_rows args)

pub printed_print : (page : Page) (at text_at : Pos) (format : List ℕ) (args : List TExpr) →
    printed page (code.Print at text_at format args)
    ≡ put (printed_behind (put (called page (codes "printf")) (lexeme.text nowhere format)) args) (mark ")")
unfolding printed printed_behind called
printed_print page at text_at format args =
    let opened = put (put (put page (word "printf")) (mark "(")) (lexeme.text nowhere format) in
    then_one opened (behind_commas (arguments (hidden-the_row-TExpr-1 args))) (mark ")")
    ∙ ap (λ rows. put (put_all opened (behind_commas rows)) (mark ")")) (argument_rows args)

pub printed_init : (page : Page) (at name_at : Pos) (x : List ℕ) (value : TExpr) →
    printed page (code.InitAt at name_at x value) ≡ put (printed (addressed page x) value) (mark ")")
unfolding printed addressed shape-the_row-TExpr-0 hidden-the_row-TExpr-0 hidden
printed_init page at name_at x value = then_one (addressed page x) (expression value) (mark ")")

pub ruleset expression_steps = (printed_number, printed_var, printed_paren, printed_un, printed_deref, printed_cast, printed_index, printed_bin, printed_both, printed_either, printed_call, printed_builtin, printed_print, printed_init)

-- ---- Arguments

pub none_behind : (page : Page) → printed_behind page [] ≡ page
unfolding printed_behind
none_behind page = refl

pub more_behind : (page : Page) (e : TExpr) (args : List TExpr) → printed_behind page (e ∷ args) ≡ printed_behind (printed (put page (mark ",")) e) args
unfolding printed_behind printed
more_behind page e args = put_all_append (put page (mark ",")) (expression e) (behind_commas (map expression args))

pub none_between : (page : Page) → printed_between page [] ≡ page
unfolding printed_between
none_between page = refl

pub more_between : (page : Page) (e : TExpr) (args : List TExpr) → printed_between page (e ∷ args) ≡ printed_behind (printed page e) args
unfolding printed_between printed_behind printed
more_between page e args = put_all_append page (expression e) (behind_commas (map expression args))

-- one more argument of those that are left, and none
pub behind_next : (page : Page) (args : List TExpr) (i : ℕ) (e : TExpr) → i < length args → e ≡ get_or args i e →
    printed_behind page (drop i args) ≡ printed_behind (printed (put page (mark ",")) e) (drop (i + 1) args)
behind_next page args i e lt is =
    at_drop_more (printed_behind page) args i e lt
    ∙ ap (λ x. printed_behind page (x ∷ drop (i + 1) args)) (sym is)
    ∙ more_behind page e (drop (i + 1) args)

pub behind_last : (page : Page) (args : List TExpr) (i : ℕ) → length args ≤ i → printed_behind page (drop i args) ≡ page
behind_last page args i le = at_drop_all (printed_behind page) args i le ∙ none_behind page

pub between_first : (page : Page) (args : List TExpr) (e : TExpr) → 0 < length args → e ≡ get_or args 0 e →
    printed_between page args ≡ printed_behind (printed page e) (drop 1 args)
between_first page args e lt is =
    at_drop_more (printed_between page) args 0 e lt
    ∙ ap (λ x. printed_between page (x ∷ drop 1 args)) (sym is)
    ∙ more_between page e (drop 1 args)

pub between_nothing : (page : Page) (args : List TExpr) → length args ≡ 0 → printed_between page args ≡ page
between_nothing page args e = ap (printed_between page) (nil_from_length args e) ∙ none_between page
