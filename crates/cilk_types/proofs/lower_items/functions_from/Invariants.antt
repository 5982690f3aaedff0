use Rattle.std.proofs.Common.{◌≡◌, [], drop}
use Rattle.cilk_model.specs.Breaks.{entries_from}
use Rattle.cilk_types.specs.Functions.{with_items}
use Rattle.cilk_types.proofs.Fronts.{InFront}
use Rattle.cilk_types.proofs.lower_items.functions_from.Given as goal

abbrev pub invariant-loop-i : goal.invariant-loop-i
invariant-loop-i l = record {
  front : InFront l.file l.counts l.i l.items;
  all : with_items (entries_from 0 0 0 l.items) l.i (drop l.i l.items) l.functions
      ≡ with_items (entries_from 0 0 0 l.items) 0 l.items (record { written = []; bodies = []; next = l.fn.next });
}
