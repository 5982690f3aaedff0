-- The forms of a program's expressions that code builds are those that definitions match. A proof about a
-- value that code builds starts by these, and then goes by the definition's own clauses. Arguments: what a
-- definition says of a row is proved, by the row, to be what it says of `listed row`; `listed_row` then gives
-- it for the arguments that code has. A form with a list, as `Call`, is by computation its primed form with
-- `hidden-the_row-Expr-1 args` as its row.
use Rattle.std.proofs.Common.{◌≡◌, ℕ, List, [], ◌∷◌, refl}
use Rattle.word_ops.specs.declared.place.Pos.{Pos}
use Rattle.word_ops.specs.declared.operators.BinaryOp.{BinaryOp}
use Rattle.word_ops.specs.declared.operators.UnaryOp.{UnaryOp}
use Rattle.word_ops.specs.declared.format.Part.{Part}
use Rattle.mem_atomics.specs.declared.op.Op.{Op}
use Rattle.cilk_ast.specs.declared.builtin.Builtin.{Builtin}
use Rattle.cilk_ast.specs.declared.program.Expr as code
use Rattle.cilk_ast.specs.declared.program.Expr.TheBlock.{shape-the_row-Expr-0, hidden-the_row-Expr-0, shape-the_row-Expr-1, hidden-the_row-Expr-1}
use Rattle.cilk_ast.specs.declared.program.Expr.{Expr, Call', Print', Alloc'}
use Rattle.cilk_ast.specs.Expression.{Un, Bin, Both, Either, Load, Post, Add, Swap, Cas, Init, Move, listed}
use denote.Hole.Carrier.{hidden}

pub un_form : (at : Pos) (op : UnaryOp) (inner : Expr) → code.Un at op inner ≡ Un at op inner
unfolding shape-the_row-Expr-0 hidden-the_row-Expr-0 hidden
un_form at op inner = refl

pub bin_form : (at : Pos) (op : BinaryOp) (left : Expr) (right : Expr) → code.Bin at op left right ≡ Bin at op left right
unfolding shape-the_row-Expr-0 hidden-the_row-Expr-0 hidden
bin_form at op left right = refl

pub both_form : (at : Pos) (left : Expr) (right : Expr) → code.Both at left right ≡ Both at left right
unfolding shape-the_row-Expr-0 hidden-the_row-Expr-0 hidden
both_form at left right = refl

pub either_form : (at : Pos) (left : Expr) (right : Expr) → code.Either at left right ≡ Either at left right
unfolding shape-the_row-Expr-0 hidden-the_row-Expr-0 hidden
either_form at left right = refl

pub load_form : (at : Pos) (address : Expr) → code.Load at address ≡ Load at address
unfolding shape-the_row-Expr-0 hidden-the_row-Expr-0 hidden
load_form at address = refl

pub post_form : (at : Pos) (op : Op) (address : Expr) (value : Expr) → code.Post at op address value ≡ Post at op address value
unfolding shape-the_row-Expr-0 hidden-the_row-Expr-0 hidden
post_form at op address value = refl

pub add_form : (at : Pos) (address : Expr) (value : Expr) → code.Add at address value ≡ Add at address value
unfolding shape-the_row-Expr-0 hidden-the_row-Expr-0 hidden
add_form at address value = refl

pub swap_form : (at : Pos) (address : Expr) (value : Expr) → code.Swap at address value ≡ Swap at address value
unfolding shape-the_row-Expr-0 hidden-the_row-Expr-0 hidden
swap_form at address value = refl

pub cas_form : (at : Pos) (address : Expr) (expected : Expr) (value : Expr) → code.Cas at address expected value ≡ Cas at address expected value
unfolding shape-the_row-Expr-0 hidden-the_row-Expr-0 hidden
cas_form at address expected value = refl

pub init_form : (at : Pos) (address : Expr) (value : Expr) → code.Init at address value ≡ Init at address value
unfolding shape-the_row-Expr-0 hidden-the_row-Expr-0 hidden
init_form at address value = refl

pub move_form : (at : Pos) (address : Expr) → code.Move at address ≡ Move at address
unfolding shape-the_row-Expr-0 hidden-the_row-Expr-0 hidden
move_form at address = refl

-- the row of a list has the items of the list
pub listed_row : (args : List Expr) → listed (hidden-the_row-Expr-1 args) ≡ args
unfolding shape-the_row-Expr-1 hidden-the_row-Expr-1 hidden
listed_row [] = refl
listed_row (e ∷ args) = λ i. e ∷ listed_row args i

pub call_form : (at : Pos) (function : ℕ) (args : List Expr) → code.Call at function args ≡ Call' at function _ (hidden-the_row-Expr-1 args)
call_form at function args = refl

pub print_form : (format : List Part) (args : List Expr) → code.Print format args ≡ Print' format _ (hidden-the_row-Expr-1 args)
print_form format args = refl

pub alloc_form : (at : Pos) (which : Builtin) (args : List Expr) → code.Alloc at which args ≡ Alloc' at which _ (hidden-the_row-Expr-1 args)
alloc_form at which args = refl
