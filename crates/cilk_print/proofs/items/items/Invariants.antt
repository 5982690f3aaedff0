use Rattle.std.proofs.Common.{◌≡◌, drop}
use Rattle.cilk_print.specs.Printing.{printed_items}
use Rattle.cilk_print.proofs.items.items.Given as goal

abbrev pub invariant-loop-i : goal.invariant-loop-i
invariant-loop-i l = printed_items l.page (drop l.i l.items) ≡ printed_items l.initial.page l.items
