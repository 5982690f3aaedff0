-- Marks and words of the forms of trees as the grammar names them, and what is to be shown of each form of the grammar:
-- its tree has no more marks and words than the row of tokens that spells it has tokens.
use Rattle.std.proofs.Common.{◌≡◌, ℕ, suc, ◌+◌, ◌≤◌, List, [], ◌∷◌, ◌++◌, length, Option, Some, None, refl, ap, arith}
use Rattle.word_ops.specs.declared.place.Pos.{Pos}
use Rattle.cilk_ast.specs.declared.builtin.Builtin.{Builtin}
use Rattle.cilk_ast.specs.declared.tree.TExpr as tree
use Rattle.cilk_ast.specs.declared.tree.TExpr.{TExpr}
use Rattle.cilk_ast.specs.declared.tree.TExpr.TheBlock.{shape-the_row-TExpr-0, hidden-the_row-TExpr-0, shape-the_row-TExpr-1, hidden-the_row-TExpr-1}
use Rattle.cilk_ast.specs.declared.tree.TStmt as stmt
use Rattle.cilk_ast.specs.declared.tree.TStmt.{TStmt}
use Rattle.cilk_ast.specs.declared.tree.TStmt.TheBlock.{shape-the_row-TStmt-0, hidden-the_row-TStmt-0}
use Rattle.cilk_ast.specs.declared.tree.Item.{Item}
use Rattle.cilk_ast.specs.declared.tree.Item.TheVariants as item
use Rattle.cilk_ast.specs.TreeStatement.{part_of}
use Rattle.cilk_ast.proofs.TreeStatementForms.{if_form, for_form}
use Rattle.cilk_model.specs.Signs.{Prefix, minus, opposite, complement, contents, prefixed, Infix, either, both, binary, joined}
use Rattle.cilk_model.specs.GrammarForms as form
use Rattle.cilk_model.specs.GrammarForms.{Form, Val}
use Rattle.cilk_model.specs.Grammar.{Row}
use Rattle.cilk_types.specs.Marks.{marks_of, argument_marks, list_marks, option_marks, spawn_marks, value_marks, initial_marks, marks_in, marks_in_part, marks_in_all, marks_from}
use denote.Hole.Carrier.{hidden}

-- ---- expressions

pub prefixed_marks : (o : Prefix) (at : Pos) (x : TExpr) → marks_of (prefixed o at x) ≡ 1 + marks_of x
unfolding shape-the_row-TExpr-0 hidden-the_row-TExpr-0 hidden
prefixed_marks minus at x = refl
prefixed_marks opposite at x = refl
prefixed_marks complement at x = refl
prefixed_marks contents at x = refl

pub joined_marks : (o : Infix) (at : Pos) (x y : TExpr) → marks_of (joined o at x y) ≡ 1 + marks_of x + marks_of y
unfolding shape-the_row-TExpr-0 hidden-the_row-TExpr-0 hidden
joined_marks either at x y = refl
joined_marks both at x y = refl
joined_marks (binary o) at x y = refl

argument_list : (args : List TExpr) → argument_marks (hidden-the_row-TExpr-1 args) ≡ list_marks args
unfolding shape-the_row-TExpr-1 hidden-the_row-TExpr-1 hidden
argument_list [] = refl
argument_list (e ∷ args) = ap (λ n. marks_of e + n) (argument_list args)

pub call_marks : (at : Pos) (f : List ℕ) (xs : List TExpr) → marks_of (tree.Call at f xs) ≡ 3 + list_marks xs
call_marks at f xs = ap (λ n. 3 + n) (argument_list xs)

pub builtin_marks : (at : Pos) (which : Builtin) (xs : List TExpr) → marks_of (tree.Builtin at which xs) ≡ 3 + list_marks xs
builtin_marks at which xs = ap (λ n. 3 + n) (argument_list xs)

pub print_marks : (at text_at : Pos) (format : List ℕ) (xs : List TExpr) → marks_of (tree.Print at text_at format xs) ≡ 4 + list_marks xs
print_marks at text_at format xs = ap (λ n. 4 + n) (argument_list xs)

-- ---- statements

-- those of statements in a list, and of one that may be missing
abbrev pub body_marks : List TStmt → ℕ
body_marks [] = 0
body_marks (s ∷ body) = marks_in s + body_marks body

abbrev pub part_marks : Option TStmt → ℕ
part_marks None = 0
part_marks (Some s) = marks_in s

pub body_sum : (ss ts : List TStmt) → body_marks (ss ++ ts) ≡ body_marks ss + body_marks ts
body_sum [] ts = omega arith
body_sum (s ∷ ss) ts = let h = body_sum ss ts in omega arith

body_list : (body : List TStmt) → marks_in_all (hidden-the_row-TStmt-0 body) ≡ body_marks body
unfolding shape-the_row-TStmt-0 hidden-the_row-TStmt-0 hidden
body_list [] = refl
body_list (s ∷ body) = ap (λ n. marks_in s + n) (body_list body)

pub block_marks : (body : List TStmt) → marks_in (stmt.Block body) ≡ 2 + body_marks body
block_marks body = ap (λ n. 2 + n) (body_list body)

part_of_marks : (part : Option TStmt) → marks_in_part (part_of part) ≡ part_marks part
part_of_marks None = refl
part_of_marks (Some s) = refl

pub if_marks : (x : TExpr) (s : TStmt) (part : Option TStmt) → marks_in (stmt.If x s part) ≡ 3 + marks_of x + marks_in s + part_marks part
if_marks x s part = let e = ap marks_in (if_form x s part) in let p = part_of_marks part in omega arith

pub for_marks : (i : Option TStmt) (t : Option TExpr) (n : Option TStmt) (s : TStmt) →
    marks_in (stmt.For i t n s) ≡ 5 + part_marks i + option_marks t + part_marks n + marks_in s
for_marks i t n s =
    let e = ap marks_in (for_form i t n s) in let p = part_of_marks i in let q = part_of_marks n in omega arith

-- ---- items

pub items_sum : (fs gs : List Item) → marks_from (fs ++ gs) ≡ marks_from fs + marks_from gs
items_sum [] gs = omega arith
items_sum (item.Global at name kind replicated ∷ fs) gs = let h = items_sum fs gs in omega arith
items_sum (item.Function at result name_at name params body ∷ fs) gs = let h = items_sum fs gs in omega arith

-- ---- What is to be shown. The `long` or the `,` before a declarator stands outside it, as do the first two tokens of a
-- function.

abbrev pub Marked : (n : Form) → Val n → Row → Type 0
Marked form.star k a = Unit {0}
Marked (form.expression n) x a = marks_of x ≤ length a
Marked (form.further n x) z a = marks_of z ≤ marks_of x + length a
Marked form.postfix x a = marks_of x ≤ length a
Marked (form.indexes x) z a = marks_of z ≤ marks_of x + length a
Marked form.primary x a = marks_of x ≤ length a
Marked form.args xs a = list_marks xs ≤ length a
Marked form.more_args xs a = list_marks xs ≤ length a
Marked form.perhaps e a = option_marks e ≤ length a
Marked form.origin from a = 1 + option_marks from.1 ≤ length a
Marked form.spawn s a = spawn_marks s ≤ length a
Marked (form.value may) v a = value_marks v ≤ length a
Marked form.initial v a = initial_marks v ≤ length a
Marked form.local s a = marks_in s ≤ 1 + length a
Marked form.more_locals ss a = body_marks ss ≤ length a
Marked (form.simple may) s a = marks_in s ≤ length a
Marked (form.change may x) s a = marks_in s ≤ marks_of x + length a
Marked form.init i a = part_marks i ≤ length a
Marked form.step i a = part_marks i ≤ length a
Marked form.up i a = 2 ≤ length a
Marked form.statement s a = marks_in s ≤ length a
Marked form.block s a = marks_in s ≤ length a
Marked form.body ss a = body_marks ss ≤ length a
Marked form.params ps a = Unit {0}
Marked form.param p a = Unit {0}
Marked form.more_params ps a = Unit {0}
Marked (form.function at k at_name f) fs a = marks_from fs ≤ 2 + length a
Marked (form.more_globals r) gs a = marks_from gs ≤ length a
Marked form.item fs a = marks_from fs ≤ length a
Marked form.items fs a = marks_from fs ≤ length a
Marked form.file tree a = suc (marks_from tree.items) ≤ length a
