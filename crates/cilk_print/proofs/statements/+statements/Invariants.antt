use Rattle.std.proofs.Common.{◌≡◌, drop}
use Rattle.cilk_print.specs.Printing.{printed_statements}
use Rattle.cilk_print.proofs.statements.+statements.Given as goal

abbrev pub invariant-statements-loop-i : goal.invariant-statements-loop-i
invariant-statements-loop-i l = printed_statements l.page (drop l.i l.body) ≡ printed_statements l.initial.page l.body
