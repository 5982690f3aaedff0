use Rattle.std.proofs.Common.{◌≡◌, ◌≤◌, drop}
use Rattle.cilk_ast.specs.declared.tree.TExpr.{size-TExpr}
use Rattle.cilk_types.specs.Arguments.{arguments_of, words_of, joined}
use Rattle.cilk_types.specs.Shown.{names_of}
use Rattle.cilk_types.specs.Judging.{judgement, behind}
use Rattle.cilk_types.proofs.expressions.+judging.Given as goal

abbrev pub invariant-arguments-loop-i : goal.invariant-arguments-loop-i
invariant-arguments-loop-i l = joined l.found (arguments_of (names_of l.scopes) (drop l.i l.wanted) (drop l.i l.args)) ≡ arguments_of (names_of l.scopes) l.wanted l.args

abbrev pub invariant-words-loop-i : goal.invariant-words-loop-i
invariant-words-loop-i l = joined l.found (words_of (names_of l.scopes) (drop l.i l.args)) ≡ words_of (names_of l.scopes) l.args

abbrev pub invariant-judge-loop-rest : goal.invariant-judge-loop-rest
invariant-judge-loop-rest l = (size-TExpr l.rest ≤ size-TExpr l.fn.e) ×
    (behind l.taken (judgement (names_of l.scopes) l.rest) l.outside ≡ judgement (names_of l.scopes) l.fn.e)
