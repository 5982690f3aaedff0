-- Which statements of the code's forms an `else` would go on; and what comes behind a statement in a body.
use Rattle.std.proofs.Common.{◌≡◌, Bool, true, false, ◌&&◌, List, ◌++◌, Option, Some, None, refl, ◌∙◌, ap, append_assoc}
use Rattle.std.proofs.Math.Bool.{and-false}
use Rattle.word_ops.specs.declared.place.Pos.{Pos}
use Rattle.cilk_ast.specs.declared.tree.TExpr.{TExpr}
use Rattle.cilk_ast.specs.declared.tree.TStmt as stmt
use Rattle.cilk_ast.specs.declared.tree.TStmt.{TStmt}
use Rattle.cilk_ast.proofs.TreeStatementForms.{if_form, while_form, for_form, cilk_for_form}
use Rattle.cilk_model.specs.Tests.{is_mark, is_word, starts}
use Rattle.cilk_model.specs.OpenEnds.{ends_open}
use Rattle.cilk_model.specs.Grammar.{Row, Spells, no_more, locals, next_statement}
use Rattle.cilk_model.specs.GrammarForms.{Val, body}
use Rattle.cilk_parser.proofs.Openings.{opens_statement, statement_opens}
use Rattle.cilk_parser.proofs.Apart.{led_by_mark, apart_word}

pub open_alone : (x : TExpr) (s : TStmt) → ends_open (stmt.If x s None) ≡ true
open_alone x s = ap ends_open (if_form x s None)

pub open_else : (x : TExpr) (s r : TStmt) → ends_open (stmt.If x s (Some r)) ≡ ends_open r
open_else x s r = ap ends_open (if_form x s (Some r))

pub open_while : (x : TExpr) (s : TStmt) → ends_open (stmt.While x s) ≡ ends_open s
open_while x s = ap ends_open (while_form x s)

pub open_for : (i : Option TStmt) (t : Option TExpr) (n : Option TStmt) (s : TStmt) → ends_open (stmt.For i t n s) ≡ ends_open s
open_for i t n s = ap ends_open (for_form i t n s)

pub open_cilk_for : (at : Pos) (i : List _) (l : TExpr) (j : Pos × List _) (h : TExpr) (n : Pos × List _) (s : TStmt) → ends_open (stmt.CilkFor at i l j h n s) ≡ ends_open s
open_cilk_for at i l j h n s = ap ends_open (cilk_for_form at i l j h n s)

-- Behind a statement in a body comes no `else`.
pub body_no_else : {ss : Val body} {b : Row} → Spells body ss b → (q : Row) → starts (is_mark "}") q ≡ true → starts (is_word "else") (b ++ q) ≡ false
body_no_else no_more q e = led_by_mark "}" (is_word "else") false q e (λ at. refl)
body_no_else (locals h g k) q e = refl
body_no_else (next_statement {a = a} {b = b} h g) q e =
    ap (starts (is_word "else")) (append_assoc a b q) ∙ apart_word "else" opens_statement (λ at. refl) (a ++ (b ++ q)) (statement_opens h (b ++ q))

-- An `else` that does not come goes on with nothing.
pub no_else_behind : (b : Bool) (q : Row) → starts (is_word "else") q ≡ false → (b && starts (is_word "else") q) ≡ false
no_else_behind b q e = ap (λ z. b && z) e ∙ and-false b
