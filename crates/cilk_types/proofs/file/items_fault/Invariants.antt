use Rattle.std.proofs.Common.{◌≡◌, drop}
use Rattle.cilk_model.specs.FirstFault.{earlier}
use Rattle.cilk_model.specs.Breaks.{entries_from}
use Rattle.cilk_types.specs.Checking.{found_from}
use Rattle.cilk_types.proofs.Fronts.{InFront}
use Rattle.cilk_types.proofs.file.items_fault.Given as goal

abbrev pub invariant-loop-i : goal.invariant-loop-i
invariant-loop-i l = record {
  front : InFront l.file l.counts l.i l.items;
  worst : earlier l.worst (found_from (entries_from 0 0 0 l.items) l.i (drop l.i l.items)) ≡ found_from (entries_from 0 0 0 l.items) 0 l.items;
}
