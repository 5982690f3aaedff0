-- A page with a statement, by its form: the same with its parts, one after the other.
use Rattle.std.proofs.Common.{◌≡◌, ◌∙◌, ap, sym, ℕ, ◌+◌, ◌<◌, ◌≤◌, List, [], ◌∷◌, ◌++◌, map, length, get_or, drop, flat_map, refl, codes, Option, Some, None}
use Rattle.std.proofs.lemmas.List.{at_drop_more, at_drop_all}
use Rattle.word_ops.specs.declared.place.Pos.{Pos}
use Rattle.cilk_ast.specs.declared.kind.Kind.{Kind}
use Rattle.cilk_ast.specs.declared.kind.Kind.TheVariants as kind
use Rattle.cilk_ast.specs.TreeStatement.{part_of}
use Rattle.cilk_ast.proofs.TreeStatementForms.{for_form}
use Rattle.cilk_ast.specs.declared.tree.TStmt as code
use Rattle.cilk_ast.specs.declared.tree.TStmt.TheBlock.{hidden-the_row-TStmt-0, shape-the_row-TStmt-1, hidden-the_row-TStmt-1}
use Rattle.cilk_ast.specs.declared.tree.TExpr.{TExpr}
use Rattle.cilk_ast.specs.declared.tree.TStmt.{TStmt}
use Rattle.cilk_ast.specs.declared.tree.TSpawn.{TSpawn}
use Rattle.cilk_ast.specs.declared.tree.TValue.{TValue}
use Rattle.cilk_ast.specs.declared.tree.TValue.TheVariants.{Plain, Spawned}
use Rattle.cilk_model.specs.declared.layout.Page.{Page}
use Rattle.cilk_model.specs.Grammar.{Row}
use Rattle.cilk_model.specs.TreeTokens.{word, mark, name, expression, between_commas, declared, origin, value, initial, perhaps, head, for_head, cilk_for_head, in_brackets, statement, statements}
use Rattle.cilk_model.specs.Layout.{put, put_all}
use Rattle.cilk_print.specs.Printing.{printed, printed_between, starred, called, bracketed, printed_perhaps, printed_declared, printed_spawn, printed_origin, printed_value, printed_initial, printed_simple, printed_part, printed_for_head, printed_low, printed_high, printed_cilk_for_head, printed_else, printed_statement, printed_statements}
use Rattle.cilk_print.proofs.FormTokens.{statement_rows}
use Rattle.cilk_print.proofs.Pages.{put_all_append}
use denote.Hole.Carrier.{hidden}

pub no_perhaps : (page : Page) → printed_perhaps page None ≡ page
unfolding printed_perhaps
no_perhaps page = refl

pub some_perhaps : (page : Page) (e : TExpr) → printed_perhaps page (Some e) ≡ printed page e
unfolding printed_perhaps printed
some_perhaps page e = refl

pub ruleset perhaps_steps = (no_perhaps, some_perhaps)

pub declared_step : (page : Page) (k : Kind) (x : List ℕ) → printed_declared page k x ≡ put (starred (put page (word "long")) k) (name x)
unfolding printed_declared starred
declared_step page k x = simp put_all_append

pub no_origin : (page : Page) → printed_origin page None ≡ put page (word "cilk_spawn")
unfolding printed_origin
no_origin page = refl

pub some_origin : (page : Page) (hint : TExpr) → printed_origin page (Some hint) ≡ bracketed (put page (word "cilk_spawn_at")) hint
unfolding printed_origin bracketed
some_origin page hint = refl

pub ruleset origin_steps = (no_origin, some_origin)

pub spawn_step : (page : Page) (s : TSpawn) →
    printed_spawn page s ≡ put (printed_between (put (put (printed_origin page s.hint) (name s.name)) (mark "(")) s.args) (mark ")")
unfolding printed_spawn printed_origin printed_between
spawn_step page s =
    put_all_append page (origin s.hint) (name s.name ∷ mark "(" ∷ (between_commas (map expression s.args) ++ mark ")" ∷ []))
    ∙ put_all_append (put (put (put_all page (origin s.hint)) (name s.name)) (mark "(")) (between_commas (map expression s.args)) (mark ")" ∷ [])

pub plain_step : (page : Page) (e : TExpr) → printed_value page (Plain e) ≡ printed page e
unfolding printed_value printed
plain_step page e = refl

pub spawned_step : (page : Page) (s : TSpawn) → printed_value page (Spawned s) ≡ printed_spawn page s
unfolding printed_value printed_spawn
spawned_step page s = refl

pub ruleset value_steps = (plain_step, spawned_step)

pub no_initial : (page : Page) → printed_initial page None ≡ page
unfolding printed_initial
no_initial page = refl

pub some_initial : (page : Page) (v : TValue) → printed_initial page (Some v) ≡ printed_value (put page (mark "=")) v
unfolding printed_initial printed_value
some_initial page v = refl

pub ruleset initial_steps = (no_initial, some_initial)

-- ---- Statements without their `;`

pub local_step : (page : Page) (at : Pos) (k : Kind) (x : List ℕ) (v : Option TValue) →
    printed_simple page (code.Local at k x v) ≡ printed_initial (printed_declared page k x) v
unfolding printed_simple printed_initial printed_declared
local_step page at k x v = put_all_append page (declared k x) (initial v)

pub eval_step : (page : Page) (e : TExpr) → printed_simple page (code.Eval e) ≡ printed page e
unfolding printed_simple printed
eval_step page e = refl

pub assign_step : (page : Page) (at : Pos) (left : TExpr) (v : TValue) →
    printed_simple page (code.Assign at left v) ≡ printed_value (put (printed page left) (mark "=")) v
unfolding printed_simple printed printed_value
assign_step page at left v = put_all_append page (expression left) (mark "=" ∷ value v)

pub add_to_step : (page : Page) (at : Pos) (left right : TExpr) →
    printed_simple page (code.AddTo at left right) ≡ printed (put (printed page left) (mark "+=")) right
unfolding printed_simple printed
add_to_step page at left right = put_all_append page (expression left) (mark "+=" ∷ expression right)

pub up_step : (page : Page) (left : TExpr) → printed_simple page (code.Up left) ≡ put (printed page left) (mark "++")
unfolding printed_simple printed
up_step page left = put_all_append page (expression left) (mark "++" ∷ [])

pub down_step : (page : Page) (left : TExpr) → printed_simple page (code.Down left) ≡ put (printed page left) (mark "--")
unfolding printed_simple printed
down_step page left = put_all_append page (expression left) (mark "--" ∷ [])

pub lone_spawn_step : (page : Page) (s : TSpawn) → printed_simple page (code.Spawn s) ≡ printed_spawn page s
unfolding printed_simple printed_spawn
lone_spawn_step page s = refl

pub break_step : (page : Page) (at : Pos) → printed_simple page (code.Break at) ≡ put page (word "break")
unfolding printed_simple
break_step page at = refl

pub continue_step : (page : Page) (at : Pos) → printed_simple page (code.Continue at) ≡ put page (word "continue")
unfolding printed_simple
continue_step page at = refl

pub return_step : (page : Page) (at : Pos) (e : Option TExpr) → printed_simple page (code.Return at e) ≡ printed_perhaps (put page (word "return")) e
unfolding printed_simple printed_perhaps
return_step page at e = refl

pub sync_step : (page : Page) → printed_simple page code.Sync ≡ put page (word "cilk_sync")
unfolding printed_simple
sync_step page = refl

pub empty_step : (page : Page) → printed_simple page code.Empty ≡ page
unfolding printed_simple
empty_step page = refl

pub no_block : (page : Page) (body : List TStmt) → printed_simple page (code.Block body) ≡ page
unfolding printed_simple
no_block page body = refl

pub no_if : (page : Page) (test : TExpr) (yes_ : TStmt) (no_ : Option TStmt) → printed_simple page (code.If test yes_ no_) ≡ page
unfolding printed_simple
no_if page test yes_ no_ = refl

pub no_while : (page : Page) (test : TExpr) (body : TStmt) → printed_simple page (code.While test body) ≡ page
unfolding printed_simple
no_while page test body = refl

pub no_for : (page : Page) (init : Option TStmt) (test : Option TExpr) (step : Option TStmt) (body : TStmt) →
    printed_simple page (code.For init test step body) ≡ page
unfolding printed_simple
no_for page init test step body = refl

pub no_cilk_for : (page : Page) (at : Pos) (i : List ℕ) (low : TExpr) (second : Pos × List ℕ) (high : TExpr) (third : Pos × List ℕ) (body : TStmt) →
    printed_simple page (code.CilkFor at i low second high third body) ≡ page
unfolding printed_simple
no_cilk_for page at i low second high third body = refl

pub ruleset simple_steps = (local_step, eval_step, assign_step, add_to_step, up_step, down_step, lone_spawn_step, break_step, continue_step, return_step, sync_step, empty_step, no_block, no_if, no_while, no_for, no_cilk_for)

-- ---- Statements with parts

pub no_part : (page : Page) → printed_part page None ≡ page
unfolding printed_part
no_part page = refl

pub some_part : (page : Page) (s : TStmt) → printed_part page (Some s) ≡ printed_simple page s
unfolding printed_part printed_simple
some_part page s = refl

pub ruleset part_steps = (no_part, some_part)

-- tokens in brackets that begin behind what stands there
in_round : (page : Page) (a : Row) → put_all page (in_brackets a) ≡ put (put_all (put page (mark "(")) a) (mark ")")
in_round page a = put_all_append (put page (mark "(")) a (mark ")" ∷ [])

pub for_head_step : (page : Page) (init : Option TStmt) (test : Option TExpr) (step : Option TStmt) →
    printed_for_head page init test step
    ≡ put (printed_part (put (printed_perhaps (put (printed_part (called page (codes "for")) init) (mark ";")) test) (mark ";")) step) (mark ")")
unfolding printed_for_head printed_part printed_perhaps called
for_head_step page init test step =
    let opened = put (put page (word "for")) (mark "(") in
    in_round (put page (word "for")) (for_head (part_of init) test (part_of step))
    ∙ ap (λ p. put p (mark ")"))
    (put_all_append opened (head (part_of init)) (mark ";" ∷ (perhaps test ++ (mark ";" ∷ head (part_of step))))
    ∙ put_all_append (put (put_all opened (head (part_of init))) (mark ";")) (perhaps test) (mark ";" ∷ head (part_of step)))

pub low_step : (page : Page) (i : List ℕ) (low : TExpr) →
    printed_low page i low ≡ put (printed (put (printed_declared page kind.Long i) (mark "=")) low) (mark ";")
unfolding printed_low printed printed_declared
low_step page i low =
    put_all_append page (declared kind.Long i) (mark "=" ∷ (expression low ++ mark ";" ∷ []))
    ∙ put_all_append (put (put_all page (declared kind.Long i)) (mark "=")) (expression low) (mark ";" ∷ [])

pub high_step : (page : Page) (j : List ℕ) (high : TExpr) →
    printed_high page j high ≡ put (printed (put (put page (name j)) (mark "<")) high) (mark ";")
unfolding printed_high printed
high_step page j high = put_all_append (put (put page (name j)) (mark "<")) (expression high) (mark ";" ∷ [])

pub cilk_for_head_step : (page : Page) (i : List ℕ) (low : TExpr) (j : List ℕ) (high : TExpr) (k : List ℕ) →
    printed_cilk_for_head page i low j high k
    ≡ put (put (put (printed_high (printed_low (called page (codes "cilk_for")) i low) j high) (name k)) (mark "++")) (mark ")")
unfolding printed_cilk_for_head printed_low printed_high called
cilk_for_head_step page i low j high k =
    in_round (put page (word "cilk_for")) (cilk_for_head i low j high k) ∙ ap (λ p. put p (mark ")")) (simp put_all_append)

pub block_step : (page : Page) (body : List TStmt) → printed_statement page (code.Block body) ≡ put (printed_statements (put page (mark "{")) body) (mark "}")
unfolding printed_statement printed_statements
block_step page body =
    put_all_append (put page (mark "{")) (statements (hidden-the_row-TStmt-0 body)) (mark "}" ∷ [])
    ∙ ap (λ a. put (put_all (put page (mark "{")) a) (mark "}")) (statement_rows body)

pub if_step : (page : Page) (test : TExpr) (yes_ : TStmt) (no_ : Option TStmt) →
    printed_statement page (code.If test yes_ no_) ≡ printed_else (printed_statement (bracketed (put page (word "if")) test) yes_) no_
unfolding printed_statement bracketed shape-the_row-TStmt-1 hidden-the_row-TStmt-1 hidden
if_step page test yes_ None = put_all_append (put page (word "if")) (in_brackets (expression test)) (statement yes_)
if_step page test yes_ (Some no_) =
    put_all_append (put page (word "if")) (in_brackets (expression test)) (statement yes_ ++ (word "else" ∷ statement no_))
    ∙ put_all_append (put_all (put page (word "if")) (in_brackets (expression test))) (statement yes_) (word "else" ∷ statement no_)

pub while_step : (page : Page) (test : TExpr) (body : TStmt) →
    printed_statement page (code.While test body) ≡ printed_statement (bracketed (put page (word "while")) test) body
unfolding printed_statement bracketed shape-the_row-TStmt-1 hidden-the_row-TStmt-1 hidden
while_step page test body = put_all_append (put page (word "while")) (in_brackets (expression test)) (statement body)

pub for_step : (page : Page) (init : Option TStmt) (test : Option TExpr) (step : Option TStmt) (body : TStmt) →
    printed_statement page (code.For init test step body) ≡ printed_statement (printed_for_head page init test step) body
unfolding printed_statement printed_for_head
for_step page init test step body =
    ap (λ s. put_all page (statement s)) (for_form init test step body)
    ∙ put_all_append (put page (word "for")) (in_brackets (for_head (part_of init) test (part_of step))) (statement body)

pub cilk_for_step : (page : Page) (at : Pos) (i : List ℕ) (low : TExpr) (second : Pos × List ℕ) (high : TExpr) (third : Pos × List ℕ) (body : TStmt) →
    printed_statement page (code.CilkFor at i low second high third body) ≡ printed_statement (printed_cilk_for_head page i low second.1 high third.1) body
unfolding printed_statement printed_cilk_for_head shape-the_row-TStmt-1 hidden-the_row-TStmt-1 hidden
cilk_for_step page at i low second high third body =
    put_all_append (put page (word "cilk_for")) (in_brackets (cilk_for_head i low second.1 high third.1)) (statement body)

pub ruleset statement_steps = (block_step, if_step, while_step, for_step, cilk_for_step)

-- ---- The statements of a block

pub statements_next : (page : Page) (body : List TStmt) (i : ℕ) (s : TStmt) → i < length body → s ≡ get_or body i s →
    printed_statements page (drop i body) ≡ printed_statements (printed_statement page s) (drop (i + 1) body)
unfolding printed_statements printed_statement
statements_next page body i s lt is =
    at_drop_more (printed_statements page) body i s lt
    ∙ ap (λ x. printed_statements page (x ∷ drop (i + 1) body)) (sym is)
    ∙ put_all_append page (statement s) (flat_map statement (drop (i + 1) body))

pub statements_last : (page : Page) (body : List TStmt) (i : ℕ) → length body ≤ i → printed_statements page (drop i body) ≡ page
unfolding printed_statements
statements_last page body i le = at_drop_all (printed_statements page) body i le
