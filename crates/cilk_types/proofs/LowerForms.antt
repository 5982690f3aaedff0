-- What each form of expression is, from what its parts are.
use Rattle.std.proofs.Common.{◌≡◌, ap, ℕ, List, [], ◌∷◌, map, refl, ℤ}
use Rattle.word_ops.specs.declared.place.Pos.{Pos}
use Rattle.word_ops.specs.declared.operators.BinaryOp.{BinaryOp}
use Rattle.word_ops.specs.declared.operators.BinaryOp.TheVariants as by
use Rattle.word_ops.specs.declared.operators.UnaryOp.{UnaryOp}
use Rattle.cilk_ast.specs.declared.builtin.Builtin.{Builtin}
use Rattle.cilk_ast.specs.declared.kind.Kind.{Kind}
use Rattle.cilk_ast.specs.declared.program.Expr as program
use Rattle.cilk_ast.specs.declared.program.Expr.{Expr, Word}
use Rattle.cilk_ast.specs.declared.tree.TExpr as code
use Rattle.cilk_ast.specs.declared.tree.TExpr.TheBlock.{shape-the_row-TExpr-0, hidden-the_row-TExpr-0, shape-the_row-TExpr-1, hidden-the_row-TExpr-1}
use Rattle.cilk_ast.specs.declared.tree.TExpr.{TExpr, Number, Var}
use Rattle.cilk_model.specs.Scopes.{Names}
use Rattle.cilk_model.specs.ExpressionLowering.{address_of, index_of, variable, built_in, expression, arguments}
use Rattle.cilk_types.specs.Lowered.{lowered, lowered_list, format_in}
use denote.Hole.Carrier.{hidden}

row_is : (names : Names) (frame : List ℕ) (args : List TExpr) → arguments names frame (hidden-the_row-TExpr-1 args) ≡ map (lowered names frame) args
unfolding lowered shape-the_row-TExpr-1 hidden-the_row-TExpr-1 hidden
row_is names frame [] = refl
row_is names frame (arg ∷ args) = λ i. expression names frame arg ∷ row_is names frame args i

pub lowered_number : (names : Names) (frame : List ℕ) (at : Pos) (value : ℤ) → lowered names frame (Number at value) ≡ Word value
unfolding lowered
lowered_number names frame at value = refl

pub lowered_var : (names : Names) (frame : List ℕ) (at : Pos) (name : List ℕ) → lowered names frame (Var at name) ≡ variable frame at (names name)
unfolding lowered
lowered_var names frame at name = refl

pub lowered_paren : (names : Names) (frame : List ℕ) (at : Pos) (inner : TExpr) → lowered names frame (code.Paren at inner) ≡ lowered names frame inner
unfolding lowered shape-the_row-TExpr-0 hidden-the_row-TExpr-0 hidden
lowered_paren names frame at inner = refl

pub lowered_un : (names : Names) (frame : List ℕ) (at : Pos) (op : UnaryOp) (inner : TExpr) →
    lowered names frame (code.Un at op inner) ≡ program.Un at op (lowered names frame inner)
unfolding lowered shape-the_row-TExpr-0 hidden-the_row-TExpr-0 hidden
lowered_un names frame at op inner = refl

pub lowered_deref : (names : Names) (frame : List ℕ) (at : Pos) (inner : TExpr) →
    lowered names frame (code.Deref at inner) ≡ program.Load at (lowered names frame inner)
unfolding lowered shape-the_row-TExpr-0 hidden-the_row-TExpr-0 hidden
lowered_deref names frame at inner = refl

pub lowered_cast : (names : Names) (frame : List ℕ) (at : Pos) (kind : Kind) (inner : TExpr) →
    lowered names frame (code.Cast at kind inner) ≡ lowered names frame inner
unfolding lowered shape-the_row-TExpr-0 hidden-the_row-TExpr-0 hidden
lowered_cast names frame at kind inner = refl

pub lowered_index : (names : Names) (frame : List ℕ) (at : Pos) (base index : TExpr) →
    lowered names frame (code.Index at base index)
    ≡ program.Load at (program.Bin at by.Add (lowered names frame base) (lowered names frame index))
unfolding lowered shape-the_row-TExpr-0 hidden-the_row-TExpr-0 hidden
lowered_index names frame at base index = refl

pub lowered_bin : (names : Names) (frame : List ℕ) (at : Pos) (op : BinaryOp) (left right : TExpr) →
    lowered names frame (code.Bin at op left right) ≡ program.Bin at op (lowered names frame left) (lowered names frame right)
unfolding lowered shape-the_row-TExpr-0 hidden-the_row-TExpr-0 hidden
lowered_bin names frame at op left right = refl

pub lowered_both : (names : Names) (frame : List ℕ) (at : Pos) (left right : TExpr) →
    lowered names frame (code.Both at left right) ≡ program.Both at (lowered names frame left) (lowered names frame right)
unfolding lowered shape-the_row-TExpr-0 hidden-the_row-TExpr-0 hidden
lowered_both names frame at left right = refl

pub lowered_either : (names : Names) (frame : List ℕ) (at : Pos) (left right : TExpr) →
    lowered names frame (code.Either at left right) ≡ program.Either at (lowered names frame left) (lowered names frame right)
unfolding lowered shape-the_row-TExpr-0 hidden-the_row-TExpr-0 hidden
lowered_either names frame at left right = refl

pub lowered_init : (names : Names) (frame : List ℕ) (at name_at : Pos) (name : List ℕ) (value : TExpr) →
    lowered names frame (code.InitAt at name_at name value) ≡ program.Init at (Word (address_of (names name))) (lowered names frame value)
unfolding lowered shape-the_row-TExpr-0 hidden-the_row-TExpr-0 hidden
lowered_init names frame at name_at name value = refl

pub lowered_call : (names : Names) (frame : List ℕ) (at : Pos) (name : List ℕ) (args : List TExpr) →
    lowered names frame (code.Call at name args) ≡ program.Call at (index_of (names name)) (lowered_list names frame args)
unfolding lowered
lowered_call names frame at name args = ap (program.Call at (index_of (names name))) (row_is names frame args)

pub lowered_builtin : (names : Names) (frame : List ℕ) (at : Pos) (which : Builtin) (args : List TExpr) →
    lowered names frame (code.Builtin at which args) ≡ built_in at which (lowered_list names frame args)
unfolding lowered
lowered_builtin names frame at which args = ap (built_in at which) (row_is names frame args)

pub lowered_print : (names : Names) (frame : List ℕ) (at text_at : Pos) (format : List ℕ) (args : List TExpr) →
    lowered names frame (code.Print at text_at format args) ≡ program.Print (format_in format) (lowered_list names frame args)
unfolding lowered format_in
lowered_print names frame at text_at format args = ap (program.Print (format_in format)) (row_is names frame args)

pub ruleset lowered_forms =
    (lowered_number, lowered_var, lowered_paren, lowered_un, lowered_deref, lowered_cast, lowered_index, lowered_bin, lowered_both, lowered_either, lowered_init, lowered_call, lowered_builtin, lowered_print)
