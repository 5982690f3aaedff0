use Rattle.std.proofs.Common.{◌≡◌, drop}
use Rattle.cilk_print.specs.Printing.{params_behind}
use Rattle.cilk_print.proofs.items.behind_commas.Given as goal

abbrev pub invariant-loop-i : goal.invariant-loop-i
invariant-loop-i l = params_behind l.page (drop l.i l.params) ≡ params_behind l.initial.page (drop l.initial.i l.params)
