use Rattle.std.proofs.Common.{◌≡◌, ◌++◌, drop}
use Rattle.cilk_model.specs.Layout.{margin}
use Rattle.cilk_print.proofs.page.margin.Given as goal

abbrev pub invariant-loop-bracket : goal.invariant-loop-bracket
invariant-loop-bracket l = l.text ++ margin (drop l.bracket-index l.brackets) ≡ l.initial.text ++ margin l.brackets
