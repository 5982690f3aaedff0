-- How large the code of a statement is.
use Rattle.std.proofs.Common.{◌≡◌, ℕ, zero, suc, take, ◌+◌, ◌*◌, ◌≤◌, ◌<◌, List, [], ◌∷◌, ◌++◌, length, Option, Some, None, refl, ap, ◌∙◌, arith, length-append, Bool, true, false}
use Rattle.std.specs.Prelude.{sum, map, slice_get}
use Rattle.std.proofs.lemmas.List.{take_more}
use Rattle.std.proofs.lemmas.Option.{get_or_from_slice_get}
use Rattle.std.specs.List.{fold}
use Rattle.cilk_ast.specs.declared.program.Expr.{Expr}
use Rattle.cilk_ast.specs.declared.program.Stmt.{Stmt, Nothing, Block', Eval, Set, Store, AddTo, Spawn, Each, Break, Continue, Return, Sync, Row_of-Stmt as Stmts, end_of-Stmt as no_stmts, more_of-Stmt as more_stmts}
use Rattle.cilk_ast.specs.Statement.{If, Loop, listed}
use Rattle.cilk_ast.specs.Nodes.{expression_nodes, statement_nodes, row_nodes}
use Rattle.codegen_expr.specs.Piece.{in_order}
use Rattle.codegen_expr.specs.Emitted.{emitted, emitted_each}
use Rattle.codegen_expr.proofs.Bounds.{within, total, each_within}
use Rattle.codegen_expr.proofs.Taken.{take_next, size_more}
use Rattle.codegen_stmt.specs.declared.around.Around.{Around}
use Rattle.codegen_stmt.specs.Stretch.{Stretch, returning}
use Rattle.codegen_stmt.specs.Compiled.{compiled_all, spawned_words}
use Rattle.codegen_stmt.specs.Compiling.{stretch_of}
use Rattle.codegen_stmt.specs.Parts.{hint_of, words_of, children_of, own_size}

-- The expressions of a statement in the order of their code.
abbrev pub all_words : Stmt → List Expr
all_words s = spawned_words (hint_of s) (words_of s)

-- The nodes, and the lines, of statements in a list.
abbrev pub totals : List Stmt → ℕ
totals [] = 0
totals (s ∷ rest) = statement_nodes s + totals rest

abbrev pub sizes : Around → List Stmt → ℕ
sizes around [] = 0
sizes around (s ∷ rest) = (stretch_of around s).size + sizes around rest

pub totals_listed : {n : _} (row : Stmts n) → totals (listed row) ≡ row_nodes row
totals_listed no_stmts = refl
totals_listed (more_stmts s rest) = ap (λ n. statement_nodes s + n) (totals_listed rest)

sizes_listed : (around : Around) {n : _} (row : Stmts n) → sizes around (listed row) ≡ (compiled_all around.spawns around.kept row).size
sizes_listed around no_stmts = refl
sizes_listed around (more_stmts s rest) = ap (λ n. (stretch_of around s).size + n) (sizes_listed around rest)

pub fold_from : (a : ℕ) (xs : List ℕ) → fold ◌+◌ a xs ≡ a + sum xs
fold_from a [] = omega arith
fold_from a (x ∷ xs) = omega (arith, fold_from (a + x) xs, fold_from (0 + x) xs)

pub total_sum : (es : List Expr) → sum (map expression_nodes es) ≡ total es
total_sum [] = refl
total_sum (e ∷ es) = omega (arith, fold_from (0 + expression_nodes e) (map expression_nodes es), total_sum es)

-- A statement has a node more than its parts.
pub nodes_above : (s : Stmt) → suc (total (all_words s) + totals (children_of s)) ≤ statement_nodes s
unfolding hint_of words_of children_of
nodes_above Nothing = omega arith
nodes_above (Block' n body) = omega (arith, totals_listed body)
nodes_above (Eval e) = omega arith
nodes_above (Set slot e) = omega arith
nodes_above (Store at l e) = omega arith
nodes_above (AddTo at l e) = omega arith
nodes_above (Spawn at target g None args) = omega (arith, total_sum args)
nodes_above (Spawn at target g (Some hint) args) = omega (arith, total_sum (hint ∷ args))
nodes_above (If test a b) = omega arith
nodes_above (Loop test step_ b) = omega arith
nodes_above (Each at low high g copies) = omega arith
nodes_above Break = omega arith
nodes_above Continue = omega arith
nodes_above (Return e) = omega arith
nodes_above Sync = omega arith

-- Its lines are those of its parts and its own.
pub size_of_parts : (around : Around) (s : Stmt) → (stretch_of around s).size ≡ own_size around s + (in_order (emitted_each (all_words s))).size + sizes around (children_of s)
unfolding hint_of words_of children_of own_size
size_of_parts around Nothing = refl
size_of_parts around (Block' n body) = omega (arith, sizes_listed around body)
size_of_parts around (Eval e) = omega arith
size_of_parts around (Set slot e) = omega arith
size_of_parts around (Store at l e) = omega arith
size_of_parts around (AddTo at l e) = omega arith
size_of_parts around (Spawn at target g None args) = omega arith
size_of_parts around (Spawn at target g (Some hint) args) = omega arith
size_of_parts around (If test a b) = omega arith
size_of_parts around (Loop test step_ b) = omega arith
size_of_parts around (Each at low high g copies) = omega arith
size_of_parts around Break = refl
size_of_parts around Continue = refl
size_of_parts around (Return e) = omega arith
size_of_parts around Sync = refl

returning_short : (b : Bool) → length (returning b) ≤ 2
returning_short true = omega arith
returning_short false = omega arith

-- How large a stretch may be for so many nodes.
pub record IsSmall (stretch : Stretch) (nodes : ℕ) : Type 0 where
  pub size : stretch.size ≤ 8 * nodes
  pub formats : length stretch.formats ≤ nodes

module _ (around : Around) where
  mutual
    pub small : (s : Stmt) → IsSmall (stretch_of around s) (statement_nodes s)
    small Nothing = record { size = omega arith; formats = omega arith }
    small (Block' n body) = let p = all_small body in let a = p.size in let b = p.formats in record { size = omega arith; formats = omega arith }
    small (Eval e) = let w = each_within (e ∷ []) in let a = w.size in let b = w.formats in record { size = omega arith; formats = omega arith }
    small (Set slot e) = let w = each_within (e ∷ []) in let a = w.size in let b = w.formats in record { size = omega arith; formats = omega arith }
    small (Store at l e) = let w = each_within (l ∷ e ∷ []) in let a = w.size in let b = w.formats in record { size = omega arith; formats = omega arith }
    small (AddTo at l e) =
        let a = (within l).size in let b = (within e).size in let c = (within l).formats in let d = (within e).formats in
        record { size = omega arith; formats = omega (arith, length-append (emitted l).formats (emitted e).formats) }
    small (Spawn at target g None args) =
        let w = each_within args in let a = w.size in let b = w.formats in record { size = omega (arith, total_sum args); formats = omega (arith, total_sum args) }
    small (Spawn at target g (Some hint) args) =
        let w = each_within (hint ∷ args) in let a = w.size in let b = w.formats in record { size = omega (arith, total_sum (hint ∷ args)); formats = omega (arith, total_sum (hint ∷ args)) }
    small (If test x y) =
        let t = emitted test in let yes_ = stretch_of around x in let no_ = stretch_of around y in
        let a = (within test).size in let b = (within test).formats in let p = small x in let q = small y in
        let c = p.size in let d = p.formats in let e = q.size in let f = q.formats in
        record { size = omega arith; formats = omega (arith, length-append t.formats (yes_.formats ++ no_.formats), length-append yes_.formats no_.formats) }
    small (Loop test x y) =
        let t = emitted test in let yes_ = stretch_of around y in let no_ = stretch_of around x in
        let a = (within test).size in let b = (within test).formats in let p = small x in let q = small y in
        let c = p.size in let d = p.formats in let e = q.size in let f = q.formats in
        record { size = omega arith; formats = omega (arith, length-append t.formats (yes_.formats ++ no_.formats), length-append yes_.formats no_.formats) }
    small (Each at low high g copies) =
        let a = (within low).size in let b = (within high).size in let c = (within low).formats in let d = (within high).formats in
        record { size = omega arith; formats = omega (arith, length-append (emitted low).formats (emitted high).formats) }
    small Break = record { size = omega arith; formats = omega arith }
    small Continue = record { size = omega arith; formats = omega arith }
    small (Return e) =
        let w = each_within (e ∷ []) in let a = w.size in let b = w.formats in
        record { size = omega (arith, returning_short around.spawns); formats = omega arith }
    small Sync = record { size = omega arith; formats = omega arith }

    pub all_small : {n : _} (row : Stmts n) → IsSmall (compiled_all around.spawns around.kept row) (row_nodes row)
    all_small no_stmts = record { size = omega arith; formats = omega arith }
    all_small (more_stmts s rest) =
        let p = small s in let q = all_small rest in let a = p.size in let b = p.formats in let c = q.size in let d = q.formats in
        record { size = omega arith; formats = omega (arith, length-append (stretch_of around s).formats (compiled_all around.spawns around.kept rest).formats) }

-- ---- one of several

pub word_within : (es : List Expr) (i : ℕ) (e : Expr) → slice_get es i ≡ Some e → expression_nodes e ≤ total es
word_within [] i e is = absurd (let wrong : None ≡ Some e = is in cc)
word_within (x ∷ es) zero e is = let some : Some x ≡ Some e = is in let same : x ≡ e = cc in omega (arith, ap expression_nodes same)
word_within (x ∷ es) (suc i) e is = omega (arith, word_within es i e is)

pub child_within : (rest : List Stmt) (i : ℕ) (s : Stmt) → slice_get rest i ≡ Some s → statement_nodes s ≤ totals rest
child_within [] i s is = absurd (let wrong : None ≡ Some s = is in cc)
child_within (x ∷ rest) zero s is = let some : Some x ≡ Some s = is in let same : x ≡ s = cc in omega (arith, ap statement_nodes same)
child_within (x ∷ rest) (suc i) s is = omega (arith, child_within rest i s is)

pub words_below : (s : Stmt) → total (words_of s) ≤ total (all_words s)
words_below s = by_hint (hint_of s)
  where
    by_hint : (o : Option Expr) → total (words_of s) ≤ total (spawned_words o (words_of s))
    by_hint None = omega arith
    by_hint (Some hint) = omega arith

pub taken_more : (es : List Expr) (i : ℕ) (e : Expr) → i < length es → slice_get es i ≡ Some e →
    (in_order (emitted_each (take (i + 1) es))).size ≡ (in_order (emitted_each (take i es))).size + (emitted e).size
taken_more es i e lt is = ap (λ l. (in_order (emitted_each l)).size) (take_next es i e lt is) ∙ size_more (take i es) e

sizes_append : (around : Around) (xs ys : List Stmt) → sizes around (xs ++ ys) ≡ sizes around xs + sizes around ys
sizes_append around [] ys = omega arith
sizes_append around (x ∷ xs) ys = omega (arith, sizes_append around xs ys)

pub sizes_taken : (around : Around) (i : ℕ) (rest : List Stmt) → sizes around (take i rest) ≤ sizes around rest
sizes_taken around zero rest = omega arith
sizes_taken around (suc i) [] = omega arith
sizes_taken around (suc i) (s ∷ rest) = omega (arith, sizes_taken around i rest)

pub child_next : (rest : List Stmt) (i : ℕ) (s : Stmt) → i < length rest → slice_get rest i ≡ Some s → take (i + 1) rest ≡ take i rest ++ s ∷ []
child_next rest i s lt is = take_more rest i s lt ∙ ap (λ x. take i rest ++ x ∷ []) (get_or_from_slice_get rest i s s is)

pub sizes_next : (around : Around) (rest : List Stmt) (i : ℕ) (s : Stmt) → i < length rest → slice_get rest i ≡ Some s →
    sizes around (take (i + 1) rest) ≡ sizes around (take i rest) + (stretch_of around s).size
sizes_next around rest i s lt is = let e = ap (sizes around) (child_next rest i s lt is) in omega (arith, sizes_append around (take i rest) (s ∷ []))
