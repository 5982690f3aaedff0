-- How many nodes a statement with no statement in it has, by the marks and words of its text.
use Rattle.std.proofs.Common.{◌≡◌, ap, ℕ, suc, ◌+◌, ◌*◌, ◌≤◌, List, [], ◌∷◌, map, Option, Some, None, refl, arith}
use Rattle.std.specs.Prelude.{pos}
use Rattle.word_ops.specs.declared.place.Pos.{Pos}
use Rattle.word_ops.specs.declared.operators.BinaryOp.TheVariants as by
use Rattle.cilk_ast.specs.declared.program.Expr.{Expr, Word, Slot}
use Rattle.cilk_ast.specs.declared.program.Stmt.TheBlock.{shape-the_row-Stmt-0, hidden-the_row-Stmt-0, shape-the_row-Stmt-1, hidden-the_row-Stmt-1}
use Rattle.cilk_ast.specs.declared.program.Stmt.{Stmt}
use Rattle.cilk_ast.specs.declared.program.Stmt as code
use Rattle.cilk_ast.specs.declared.tree.TSpawn.{TSpawn}
use Rattle.cilk_ast.specs.declared.tree.TValue.{TValue}
use Rattle.cilk_ast.specs.declared.tree.TValue.TheVariants.{Plain, Spawned}
use Rattle.cilk_ast.specs.declared.tree.TExpr.{TExpr, Number, Var, Call', Builtin', Print'}
use Rattle.cilk_ast.specs.TreeExpression.{Paren, Un, Deref, Cast, Index, Bin, Both, Either, InitAt}
use Rattle.cilk_ast.specs.Nodes.{expression_nodes, statement_nodes, row_nodes}
use Rattle.cilk_model.specs.Scopes.{Entity, local, global, function, Names}
use Rattle.cilk_model.specs.Copies.{Frame}
use Rattle.cilk_model.specs.ExpressionLowering.{index_of, expression, hint}
use Rattle.cilk_model.specs.StatementLowering.{Side, slot, cell, variable_side, side, spawn_to, target_of, put, added, assigned, initial, returned, tested}
use Rattle.cilk_types.specs.Marks.{marks_of, list_marks, option_marks, spawn_marks, value_marks, initial_marks}
use Rattle.cilk_types.proofs.KeptNodes.{list_nodes, list_sum, bin_nodes, nodes_few}
use denote.Hole.Carrier.{hidden}

-- ---- the forms that code builds

-- the nodes of statements in a list
abbrev pub body_nodes : List Stmt → ℕ
body_nodes [] = 0
body_nodes (s ∷ body) = statement_nodes s + body_nodes body

block_row : (body : List Stmt) → row_nodes (hidden-the_row-Stmt-0 body) ≡ body_nodes body
unfolding shape-the_row-Stmt-0 hidden-the_row-Stmt-0 hidden
block_row [] = refl
block_row (s ∷ body) = ap (λ n. statement_nodes s + n) (block_row body)

pub block_nodes : (body : List Stmt) → statement_nodes (code.Block body) ≡ suc (body_nodes body)
block_nodes body = ap (λ n. suc n) (block_row body)

pub if_nodes : (test : Expr) (yes_ no_ : Stmt) → statement_nodes (code.If test yes_ no_) ≤ suc (expression_nodes test) + statement_nodes yes_ + statement_nodes no_
unfolding shape-the_row-Stmt-1 hidden-the_row-Stmt-1 hidden
if_nodes test yes_ no_ = omega arith

pub loop_nodes : (test : Expr) (step body : Stmt) → statement_nodes (code.Loop test step body) ≤ suc (expression_nodes test) + statement_nodes step + statement_nodes body
unfolding shape-the_row-Stmt-1 hidden-the_row-Stmt-1 hidden
loop_nodes test step body = omega arith

-- ---- left sides

-- the nodes of the address of a side
abbrev pub side_nodes : Side → ℕ
side_nodes (slot n) = 0
side_nodes (cell at address) = expression_nodes address

pub put_nodes : (left : Side) (value : Expr) → statement_nodes (put left value) ≤ suc (side_nodes left + expression_nodes value)
put_nodes (slot n) value = omega arith
put_nodes (cell at address) value = omega arith

pub added_nodes : (at : Pos) (left : Side) (value : Expr) → statement_nodes (added at left value) ≤ 3 + side_nodes left + expression_nodes value
added_nodes at (slot n) value = let e = bin_nodes at by.Add (Slot n) value in omega arith
added_nodes at (cell cell_at address) value = omega arith

module _ (names : Names) (frame : Frame) where
  variable_side_nodes : (at : Pos) (entity : Option Entity) → side_nodes (variable_side names frame at entity) ≤ 1
  variable_side_nodes at (Some (local l)) = omega arith
  variable_side_nodes at (Some (global g)) = omega arith
  variable_side_nodes at (Some (function f)) = omega arith
  variable_side_nodes at None = omega arith

  pub side_few : (left : TExpr) → side_nodes (side names frame left) ≤ 4 * marks_of left
  side_few (Var at name) = let h = variable_side_nodes at (names name) in omega arith
  side_few (Paren at inner) = let h = side_few inner in omega arith
  side_few (Deref at inner) = let h = nodes_few names frame inner in omega arith
  side_few (Index at base index) =
      let h = nodes_few names frame base in
      let k = nodes_few names frame index in
      let e = bin_nodes at by.Add (expression names frame base) (expression names frame index) in
      omega arith
  side_few (Number at value) = let h = nodes_few names frame (Number at value) in omega arith
  side_few (Un at op inner) = let h = nodes_few names frame (Un at op inner) in omega arith
  side_few (Cast at kind inner) = let h = nodes_few names frame (Cast at kind inner) in omega arith
  side_few (Bin at op left right) = let h = nodes_few names frame (Bin at op left right) in omega arith
  side_few (Both at left right) = let h = nodes_few names frame (Both at left right) in omega arith
  side_few (Either at left right) = let h = nodes_few names frame (Either at left right) in omega arith
  side_few (Call' at name n args) = let h = nodes_few names frame (Call' at name n args) in omega arith
  side_few (Builtin' at which n args) = let h = nodes_few names frame (Builtin' at which n args) in omega arith
  side_few (Print' at text_at format n args) = let h = nodes_few names frame (Print' at text_at format n args) in omega arith
  side_few (InitAt at name_at name value) = let h = nodes_few names frame (InitAt at name_at name value) in omega arith

  -- ---- spawns and values

  list_few : (args : List TExpr) → list_nodes (map (expression names frame) args) ≤ 4 * list_marks args
  list_few [] = omega arith
  list_few (arg ∷ rest) = let h = nodes_few names frame arg in let k = list_few rest in omega arith

  hinted_nodes : (at : Pos) (target : Option ℕ) (f : ℕ) (given : Option TExpr) (args : List Expr) →
      statement_nodes (code.Spawn at target f (hint names frame given) args) ≤ suc (4 * option_marks given + list_nodes args)
  hinted_nodes at target f None args = let e = list_sum args in omega arith
  hinted_nodes at target f (Some given) args =
      let e = list_sum (expression names frame given ∷ args) in let h = nodes_few names frame given in omega arith

  pub spawn_few : (target : Option ℕ) (spawn : TSpawn) → statement_nodes (spawn_to names frame target spawn) ≤ 4 * spawn_marks spawn
  spawn_few target spawn =
      let h = hinted_nodes spawn.pos target (index_of (names spawn.name)) spawn.hint (map (expression names frame) spawn.args) in
      let k = list_few spawn.args in
      omega arith

  pub assigned_few : (left : Side) (value : TValue) → statement_nodes (assigned names frame left value) ≤ suc (side_nodes left + 4 * value_marks value)
  assigned_few left (Plain e) = let h = put_nodes left (expression names frame e) in let k = nodes_few names frame e in omega arith
  assigned_few left (Spawned spawn) = let h = spawn_few (target_of left) spawn in omega arith

  pub initial_few : (n : ℕ) (value : Option TValue) → statement_nodes (initial names frame n value) ≤ 3 + 4 * initial_marks value
  initial_few n None = let h = put_nodes (slot n) (Word (pos 0)) in omega arith
  initial_few n (Some (Plain e)) = let h = put_nodes (slot n) (expression names frame e) in let k = nodes_few names frame e in omega arith
  initial_few n (Some (Spawned spawn)) =
      let h = spawn_few (Some n) spawn in
      let e = block_nodes (code.Set n (Word (pos 0)) ∷ spawn_to names frame (Some n) spawn ∷ []) in
      omega arith

  pub returned_few : (value : Option TExpr) → expression_nodes (returned names frame value) ≤ 1 + 4 * option_marks value
  returned_few None = omega arith
  returned_few (Some e) = let h = nodes_few names frame e in omega arith

  pub tested_few : (test : Option TExpr) → expression_nodes (tested names frame test) ≤ 1 + 4 * option_marks test
  tested_few None = omega arith
  tested_few (Some e) = let h = nodes_few names frame e in omega arith
