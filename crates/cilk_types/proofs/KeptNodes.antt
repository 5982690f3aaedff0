-- How many nodes an expression of a program has, by the marks and words of its text.
use Rattle.std.proofs.Common.{◌≡◌, ◌∙◌, ap, sym, ℕ, suc, ◌+◌, ◌*◌, ◌≤◌, List, [], ◌∷◌, map, sum, Option, Some, None, refl, arith}
use Rattle.std.specs.Prelude.{unwrap_or}
use Rattle.std.proofs.lemmas.List.Sums.{sum-map, sum_by-cons}
use Rattle.word_ops.specs.declared.place.Pos.{Pos}
use Rattle.word_ops.specs.declared.operators.BinaryOp.{BinaryOp}
use Rattle.word_ops.specs.declared.operators.BinaryOp.TheVariants as by
use Rattle.word_ops.specs.declared.operators.UnaryOp.{UnaryOp}
use Rattle.word_ops.specs.declared.format.Part.{Part}
use Rattle.mem_atomics.specs.declared.op.Op.{Op}
use Rattle.mem_atomics.specs.declared.op.Op.TheVariants as op
use Rattle.cilk_ast.specs.declared.builtin.Builtin.{Builtin}
use Rattle.cilk_ast.specs.declared.builtin.Builtin.TheVariants as built
use Rattle.cilk_ast.specs.declared.program.Expr.TheBlock.{shape-the_row-Expr-0, hidden-the_row-Expr-0, shape-the_row-Expr-1, hidden-the_row-Expr-1}
use Rattle.cilk_ast.specs.declared.program.Expr.{Expr, Word}
use Rattle.cilk_ast.specs.declared.program.Expr as code
use Rattle.cilk_ast.specs.declared.tree.TExpr.{TExpr, Number, Var, Call', Builtin', Print', Row_of-TExpr as Args, end_of-TExpr as no_args, more_of-TExpr as more_args}
use Rattle.cilk_ast.specs.TreeExpression.{Paren, Un, Deref, Cast, Index, Bin, Both, Either, InitAt}
use Rattle.cilk_ast.specs.Nodes.{expression_nodes, argument_nodes}
use Rattle.cilk_model.specs.Scopes.{Entity, local, global, function, Names}
use Rattle.cilk_model.specs.Formats.{format_of}
use Rattle.cilk_model.specs.Copies.{Frame}
use Rattle.cilk_model.specs.ExpressionLowering.{address_of, index_of, built_in, variable, expression, arguments}
use Rattle.cilk_types.specs.Marks.{marks_of, argument_marks}
use denote.Hole.Carrier.{hidden}

-- ---- the forms that code builds

-- the nodes of expressions in a list
abbrev pub list_nodes : List Expr → ℕ
list_nodes [] = 0
list_nodes (e ∷ es) = expression_nodes e + list_nodes es

pub list_sum : (es : List Expr) → sum (map expression_nodes es) ≡ list_nodes es
list_sum [] = refl
list_sum (e ∷ es) =
    sum-map expression_nodes (e ∷ es) ∙ sum_by-cons expression_nodes e es
    ∙ ap (λ n. expression_nodes e + n) (sym (sum-map expression_nodes es) ∙ list_sum es)

un_nodes : (at : Pos) (op : UnaryOp) (e : Expr) → expression_nodes (code.Un at op e) ≡ suc (expression_nodes e)
unfolding shape-the_row-Expr-0 hidden-the_row-Expr-0 hidden
un_nodes at op e = refl

load_nodes : (at : Pos) (e : Expr) → expression_nodes (code.Load at e) ≡ suc (expression_nodes e)
unfolding shape-the_row-Expr-0 hidden-the_row-Expr-0 hidden
load_nodes at e = refl

move_nodes : (at : Pos) (e : Expr) → expression_nodes (code.Move at e) ≡ suc (expression_nodes e)
unfolding shape-the_row-Expr-0 hidden-the_row-Expr-0 hidden
move_nodes at e = refl

pub bin_nodes : (at : Pos) (op : BinaryOp) (e f : Expr) → expression_nodes (code.Bin at op e f) ≡ suc (expression_nodes e + expression_nodes f)
unfolding shape-the_row-Expr-0 hidden-the_row-Expr-0 hidden
bin_nodes at op e f = refl

both_nodes : (at : Pos) (e f : Expr) → expression_nodes (code.Both at e f) ≡ suc (expression_nodes e + expression_nodes f)
unfolding shape-the_row-Expr-0 hidden-the_row-Expr-0 hidden
both_nodes at e f = refl

either_nodes : (at : Pos) (e f : Expr) → expression_nodes (code.Either at e f) ≡ suc (expression_nodes e + expression_nodes f)
unfolding shape-the_row-Expr-0 hidden-the_row-Expr-0 hidden
either_nodes at e f = refl

post_nodes : (at : Pos) (op : Op) (e f : Expr) → expression_nodes (code.Post at op e f) ≡ suc (expression_nodes e + expression_nodes f)
unfolding shape-the_row-Expr-0 hidden-the_row-Expr-0 hidden
post_nodes at op e f = refl

add_nodes : (at : Pos) (e f : Expr) → expression_nodes (code.Add at e f) ≡ suc (expression_nodes e + expression_nodes f)
unfolding shape-the_row-Expr-0 hidden-the_row-Expr-0 hidden
add_nodes at e f = refl

swap_nodes : (at : Pos) (e f : Expr) → expression_nodes (code.Swap at e f) ≡ suc (expression_nodes e + expression_nodes f)
unfolding shape-the_row-Expr-0 hidden-the_row-Expr-0 hidden
swap_nodes at e f = refl

init_nodes : (at : Pos) (e f : Expr) → expression_nodes (code.Init at e f) ≡ suc (expression_nodes e + expression_nodes f)
unfolding shape-the_row-Expr-0 hidden-the_row-Expr-0 hidden
init_nodes at e f = refl

cas_nodes : (at : Pos) (e f g : Expr) → expression_nodes (code.Cas at e f g) ≡ suc (expression_nodes e + expression_nodes f + expression_nodes g)
unfolding shape-the_row-Expr-0 hidden-the_row-Expr-0 hidden
cas_nodes at e f g = refl

row_nodes : (args : List Expr) → argument_nodes (hidden-the_row-Expr-1 args) ≡ list_nodes args
unfolding shape-the_row-Expr-1 hidden-the_row-Expr-1 hidden
row_nodes [] = refl
row_nodes (e ∷ args) = ap (λ n. expression_nodes e + n) (row_nodes args)

call_nodes : (at : Pos) (f : ℕ) (args : List Expr) → expression_nodes (code.Call at f args) ≡ suc (list_nodes args)
call_nodes at f args = ap (λ n. suc n) (row_nodes args)

print_nodes : (format : List Part) (args : List Expr) → expression_nodes (code.Print format args) ≡ suc (list_nodes args)
print_nodes format args = ap (λ n. suc n) (row_nodes args)

alloc_nodes : (at : Pos) (which : Builtin) (args : List Expr) → expression_nodes (code.Alloc at which args) ≡ suc (list_nodes args)
alloc_nodes at which args = ap (λ n. suc n) (row_nodes args)

-- ---- built-ins

two_more : (n : ℕ) (p q : Expr) → n ≡ suc (expression_nodes p + expression_nodes q) → n ≤ suc (list_nodes (p ∷ q ∷ []))
two_more n p q e = omega arith

built_nodes : (at : Pos) (which : Builtin) (args : List Expr) → expression_nodes (built_in at which args) ≤ suc (list_nodes args)
built_nodes at built.RemoteAdd (p ∷ v ∷ []) = two_more _ p v (post_nodes at op.Add p v)
built_nodes at built.RemoteAnd (p ∷ v ∷ []) = two_more _ p v (post_nodes at op.And p v)
built_nodes at built.RemoteOr (p ∷ v ∷ []) = two_more _ p v (post_nodes at op.Or p v)
built_nodes at built.RemoteXor (p ∷ v ∷ []) = two_more _ p v (post_nodes at op.Xor p v)
built_nodes at built.RemoteMin (p ∷ v ∷ []) = two_more _ p v (post_nodes at op.Min p v)
built_nodes at built.RemoteMax (p ∷ v ∷ []) = two_more _ p v (post_nodes at op.Max p v)
built_nodes at built.AtomicAddms (p ∷ v ∷ []) = two_more _ p v (add_nodes at p v)
built_nodes at built.AtomicSwap (p ∷ v ∷ []) = two_more _ p v (swap_nodes at p v)
built_nodes at built.AtomicCas (p ∷ x ∷ v ∷ []) = let e = cas_nodes at p x v in omega arith
built_nodes at built.MwReplicatedInit (p ∷ v ∷ []) = two_more _ p v (init_nodes at p v)
built_nodes at built.Fence [] = omega arith
built_nodes at built.Migrate (p ∷ []) = let e = move_nodes at p in omega arith
built_nodes at built.NodeId [] = omega arith
built_nodes at which args = let e = alloc_nodes at which args in omega arith

-- ---- expressions

variable_nodes : (frame : Frame) (at : Pos) (entity : Option Entity) → expression_nodes (variable frame at entity) ≤ 2
variable_nodes frame at (Some (local l)) = omega arith
variable_nodes frame at (Some (global g)) = let e = load_nodes at (Word g.address) in omega arith
variable_nodes frame at (Some (function f)) = let e = load_nodes at (Word (address_of (Some (function f)))) in omega arith
variable_nodes frame at None = let e = load_nodes at (Word (address_of None)) in omega arith

module _ (names : Names) (frame : Frame) where
  mutual
    pub nodes_few : (e : TExpr) → suc (expression_nodes (expression names frame e)) ≤ 4 * marks_of e
    nodes_few (Number at value) = omega arith
    nodes_few (Var at name) = let h = variable_nodes frame at (names name) in omega arith
    nodes_few (Paren at inner) = let h = nodes_few inner in omega arith
    nodes_few (Un at op inner) = let h = nodes_few inner in let e = un_nodes at op (expression names frame inner) in omega arith
    nodes_few (Deref at inner) = let h = nodes_few inner in let e = load_nodes at (expression names frame inner) in omega arith
    nodes_few (Cast at kind inner) = let h = nodes_few inner in omega arith
    nodes_few (Index at base index) =
        let h = nodes_few base in
        let k = nodes_few index in
        let e = bin_nodes at by.Add (expression names frame base) (expression names frame index) in
        let f = load_nodes at (code.Bin at by.Add (expression names frame base) (expression names frame index)) in
        omega arith
    nodes_few (Bin at op left right) =
        let h = nodes_few left in let k = nodes_few right in let e = bin_nodes at op (expression names frame left) (expression names frame right) in omega arith
    nodes_few (Both at left right) =
        let h = nodes_few left in let k = nodes_few right in let e = both_nodes at (expression names frame left) (expression names frame right) in omega arith
    nodes_few (Either at left right) =
        let h = nodes_few left in let k = nodes_few right in let e = either_nodes at (expression names frame left) (expression names frame right) in omega arith
    nodes_few (Call' at name n args) = let h = arguments_few args in let e = call_nodes at (index_of (names name)) (arguments names frame args) in omega arith
    nodes_few (Builtin' at which n args) = let h = arguments_few args in let e = built_nodes at which (arguments names frame args) in omega arith
    nodes_few (Print' at text_at format n args) = let h = arguments_few args in let e = print_nodes (unwrap_or (format_of format) []) (arguments names frame args) in omega arith
    nodes_few (InitAt at name_at name value) =
        let h = nodes_few value in let e = init_nodes at (Word (address_of (names name))) (expression names frame value) in omega arith

    pub arguments_few : {n : _} (args : Args n) → list_nodes (arguments names frame args) ≤ 4 * argument_marks args
    arguments_few no_args = omega arith
    arguments_few (more_args arg rest) = let h = nodes_few arg in let k = arguments_few rest in omega arith
