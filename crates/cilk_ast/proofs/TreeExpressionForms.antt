-- The forms of a tree's expressions that code builds are those that definitions match, as in
-- ExpressionForms.
use Rattle.std.proofs.Common.{◌≡◌, ℕ, List, [], ◌∷◌, refl}
use Rattle.word_ops.specs.declared.place.Pos.{Pos}
use Rattle.word_ops.specs.declared.operators.BinaryOp.{BinaryOp}
use Rattle.word_ops.specs.declared.operators.UnaryOp.{UnaryOp}
use Rattle.cilk_ast.specs.declared.kind.Kind.{Kind}
use Rattle.cilk_ast.specs.declared.builtin.Builtin as built
use Rattle.cilk_ast.specs.declared.tree.TExpr as code
use Rattle.cilk_ast.specs.declared.tree.TExpr.TheBlock.{shape-the_row-TExpr-0, hidden-the_row-TExpr-0, shape-the_row-TExpr-1, hidden-the_row-TExpr-1}
use Rattle.cilk_ast.specs.declared.tree.TExpr.{TExpr, Call', Builtin', Print'}
use Rattle.cilk_ast.specs.TreeExpression.{Paren, Un, Deref, Cast, Index, Bin, Both, Either, InitAt, listed}
use denote.Hole.Carrier.{hidden}

pub paren_form : (at : Pos) (inner : TExpr) → code.Paren at inner ≡ Paren at inner
unfolding shape-the_row-TExpr-0 hidden-the_row-TExpr-0 hidden
paren_form at inner = refl

pub un_form : (at : Pos) (op : UnaryOp) (inner : TExpr) → code.Un at op inner ≡ Un at op inner
unfolding shape-the_row-TExpr-0 hidden-the_row-TExpr-0 hidden
un_form at op inner = refl

pub deref_form : (at : Pos) (inner : TExpr) → code.Deref at inner ≡ Deref at inner
unfolding shape-the_row-TExpr-0 hidden-the_row-TExpr-0 hidden
deref_form at inner = refl

pub cast_form : (at : Pos) (kind : Kind) (inner : TExpr) → code.Cast at kind inner ≡ Cast at kind inner
unfolding shape-the_row-TExpr-0 hidden-the_row-TExpr-0 hidden
cast_form at kind inner = refl

pub index_form : (at : Pos) (base : TExpr) (index : TExpr) → code.Index at base index ≡ Index at base index
unfolding shape-the_row-TExpr-0 hidden-the_row-TExpr-0 hidden
index_form at base index = refl

pub bin_form : (at : Pos) (op : BinaryOp) (left : TExpr) (right : TExpr) → code.Bin at op left right ≡ Bin at op left right
unfolding shape-the_row-TExpr-0 hidden-the_row-TExpr-0 hidden
bin_form at op left right = refl

pub both_form : (at : Pos) (left : TExpr) (right : TExpr) → code.Both at left right ≡ Both at left right
unfolding shape-the_row-TExpr-0 hidden-the_row-TExpr-0 hidden
both_form at left right = refl

pub either_form : (at : Pos) (left : TExpr) (right : TExpr) → code.Either at left right ≡ Either at left right
unfolding shape-the_row-TExpr-0 hidden-the_row-TExpr-0 hidden
either_form at left right = refl

pub init_at_form : (at : Pos) (name_at : Pos) (name : List ℕ) (value : TExpr) → code.InitAt at name_at name value ≡ InitAt at name_at name value
unfolding shape-the_row-TExpr-0 hidden-the_row-TExpr-0 hidden
init_at_form at name_at name value = refl

-- the row of a list has the items of the list
pub listed_row : (args : List TExpr) → listed (hidden-the_row-TExpr-1 args) ≡ args
unfolding shape-the_row-TExpr-1 hidden-the_row-TExpr-1 hidden
listed_row [] = refl
listed_row (e ∷ args) = λ i. e ∷ listed_row args i

pub call_form : (at : Pos) (name : List ℕ) (args : List TExpr) → code.Call at name args ≡ Call' at name _ (hidden-the_row-TExpr-1 args)
call_form at name args = refl

pub builtin_form : (at : Pos) (which : built.Builtin) (args : List TExpr) → code.Builtin at which args ≡ Builtin' at which _ (hidden-the_row-TExpr-1 args)
builtin_form at which args = refl

pub print_form :
    (at text_at : Pos) (format : List ℕ) (args : List TExpr) → code.Print at text_at format args ≡ Print' at text_at format _ (hidden-the_row-TExpr-1 args)
print_form at text_at format args = refl
