-- Compiled code has no more slots and no higher stacks than its program needs.
use Rattle.std.proofs.Common.{◌≡◌, ℕ, suc, ◌+◌, ◌≤◌, List, [], ◌∷◌, refl, sym, ap, ◌∙◌, subst, arith}
use Rattle.std.specs.Prelude.{max}
use Rattle.std.proofs.lemmas.Option.{same_Some}
use Rattle.cilk_ast.specs.declared.program.Expr.{Expr, Word, Slot, Call', Fence, Where, Print', Alloc', Row_of-Expr as Args, end_of-Expr as no_args, more_of-Expr as more_args}
use Rattle.cilk_ast.specs.Expression.{Un, Bin, Both, Either, Load, Post, Add, Swap, Cas, Init, Move}
use Rattle.cilk_ast.specs.declared.program.Stmt.{Stmt, Nothing, Block', Eval, Set, Store, AddTo, Spawn, Each, Break, Continue, Return, Sync, Row_of-Stmt as Stmts, end_of-Stmt as no_stmts, more_of-Stmt as more_stmts}
use Rattle.cilk_ast.specs.Statement.{If, Loop}
use Rattle.cilk_ast.specs.declared.program.Program.{Program}
use Rattle.threadlet_code.specs.declared.code.FuncCode.{FuncCode}
use Rattle.threadlet_code.specs.declared.code.Code.{Code}
use Rattle.codegen_expr.specs.Piece.{Piece, in_order}
use Rattle.codegen_expr.specs.Emitted.{emitted, emitted_all, emitted_each}
use Rattle.codegen_stmt.specs.Compiled.{compiled, compiled_all, spawned_words}
use Rattle.codegen_stmt.specs.Heights.{used, in_turn, expression_height, argument_heights, heights_of, statement_height, row_height, IsNarrow}
use Rattle.codegen_stmt.specs.Whole.{function_code, formats_code, code_of}
use Rattle.codegen_stmt.proofs.Wholes.{stands}

-- One piece more in front of others, where k words wait.
turn_more : (piece : Piece) (pieces : List Piece) (h : ℕ) (hs : List ℕ) → piece.rise ≤ used h → ((k : ℕ) → k + (in_order pieces).rise ≤ max k (in_turn k hs)) → (k : ℕ) →
    k + (in_order (piece ∷ pieces)).rise ≤ max k (in_turn k (h ∷ hs))
turn_more piece pieces h hs le rest k = let r = rest (suc k) in omega arith

turn_none : (k : ℕ) → k + (in_order []).rise ≤ max k (in_turn k [])
turn_none k = omega arith

one_turn : (a : Piece) (h : ℕ) → a.rise ≤ used h → (in_order (a ∷ [])).rise ≤ in_turn 0 (h ∷ [])
one_turn a h le = let r = turn_more a [] h [] le turn_none 0 in omega arith

two_turns : (a c : Piece) (h i : ℕ) → a.rise ≤ used h → c.rise ≤ used i → (in_order (a ∷ c ∷ [])).rise ≤ in_turn 0 (h ∷ i ∷ [])
two_turns a c h i le le' = let r = turn_more a (c ∷ []) h (i ∷ []) le (turn_more c [] i [] le' turn_none) 0 in omega arith

three_turns : (a c d : Piece) (h i j : ℕ) → a.rise ≤ used h → c.rise ≤ used i → d.rise ≤ used j → (in_order (a ∷ c ∷ d ∷ [])).rise ≤ in_turn 0 (h ∷ i ∷ j ∷ [])
three_turns a c d h i j le le' le_d =
    let r = turn_more a (c ∷ d ∷ []) h (i ∷ j ∷ []) le (turn_more c (d ∷ []) i (j ∷ []) le' (turn_more d [] j [] le_d turn_none)) 0 in omega arith

mutual
  -- The code of an expression needs no more.
  rises : (e : Expr) → (emitted e).rise ≤ used (expression_height e)
  rises (Word word) = omega arith
  rises (Slot slot) = omega arith
  rises (Un at op e) = let r = rises e in omega arith
  rises (Bin at op l r) = omega (arith, two_turns (emitted l) (emitted r) (expression_height l) (expression_height r) (rises l) (rises r))
  rises (Both at l r) = omega (arith, rises l, rises r)
  rises (Either at l r) = omega (arith, rises l, rises r)
  rises (Load at a) = let r = rises a in omega arith
  rises (Call' at g n args) = omega (arith, all_rise args 0)
  rises (Post at op a v) = omega (arith, two_turns (emitted a) (emitted v) (expression_height a) (expression_height v) (rises a) (rises v))
  rises (Add at a v) = omega (arith, two_turns (emitted a) (emitted v) (expression_height a) (expression_height v) (rises a) (rises v))
  rises (Swap at a v) = omega (arith, two_turns (emitted a) (emitted v) (expression_height a) (expression_height v) (rises a) (rises v))
  rises (Cas at a x v) =
      omega (arith, three_turns (emitted a) (emitted x) (emitted v) (expression_height a) (expression_height x) (expression_height v) (rises a) (rises x) (rises v))
  rises (Init at a v) = omega (arith, two_turns (emitted a) (emitted v) (expression_height a) (expression_height v) (rises a) (rises v))
  rises Fence = omega arith
  rises (Move at a) = let r = rises a in omega arith
  rises Where = omega arith
  rises (Print' format n args) = omega (arith, all_rise args 0)
  rises (Alloc' at which n args) = omega (arith, all_rise args 0)

  all_rise : {n : _} (args : Args n) (k : ℕ) → k + (in_order (emitted_all args)).rise ≤ max k (in_turn k (argument_heights args))
  all_rise no_args = turn_none
  all_rise (more_args e rest) = turn_more (emitted e) (emitted_all rest) (expression_height e) (argument_heights rest) (rises e) (all_rise rest)

each_rise : (es : List Expr) (k : ℕ) → k + (in_order (emitted_each es)).rise ≤ max k (in_turn k (heights_of es))
each_rise [] = turn_none
each_rise (e ∷ es) = turn_more (emitted e) (emitted_each es) (expression_height e) (heights_of es) (rises e) (each_rise es)

module _ (spawns : _) (kept : ℕ) where
  mutual
    -- The code of a statement neither.
    statement_rises : (s : Stmt) → (compiled spawns kept s).rise ≤ max (statement_height s) 1
    statement_rises Nothing = omega arith
    statement_rises (Block' n body) = row_rises body
    statement_rises (Eval e) = omega (arith, rises e)
    statement_rises (Set slot e) = omega (arith, rises e)
    statement_rises (Store at l e) = omega (arith, two_turns (emitted l) (emitted e) (expression_height l) (expression_height e) (rises l) (rises e))
    statement_rises (AddTo at l e) = omega (arith, rises l, rises e)
    statement_rises (Spawn at target g hint args) = omega (arith, each_rise (spawned_words hint args) 0)
    statement_rises (If test a b) = omega (arith, rises test, statement_rises a, statement_rises b)
    statement_rises (Loop test a b) = omega (arith, rises test, statement_rises a, statement_rises b)
    statement_rises (Each at low high g copies) = omega (arith, rises low, rises high)
    statement_rises Break = omega arith
    statement_rises Continue = omega arith
    statement_rises (Return e) = omega (arith, rises e)
    statement_rises Sync = omega arith

    row_rises : {n : _} (row : Stmts n) → (compiled_all spawns kept row).rise ≤ max (row_height row) 1
    row_rises no_stmts = omega arith
    row_rises (more_stmts s rest) = omega (arith, statement_rises s, row_rises rest)

is_narrow : (program : Program) → IsNarrow (code_of program) program
is_narrow program g f h is there =
    let s = stands program.functions [] (formats_code program.functions) refl g f is in
    let same : h ≡ function_code f s.first = same_Some h (function_code f s.first) (sym there ∙ s.here) in
    let slots = ap (λ (x : FuncCode). x.slots) same in
    let height = ap (λ (x : FuncCode). x.height) same in
    omega (arith, slots, height, statement_rises f.spawns f.slots f.body)

pub narrow_at : (program : Program) (code : Code) → code ≡ code_of program → IsNarrow code program
narrow_at program code is = subst (λ c. IsNarrow c program) (sym is) (is_narrow program)
