use Rattle.cilk_types.proofs.KeptTree.{kept_parts}
use Rattle.cilk_types.proofs.WholeItems.{program_is}
use Rattle.cilk_types.proofs.programs.lower.Goals as goal

pub invariant_of-result : goal.invariant_of-result
invariant_of-result c = record {
  kept =
      kept_parts c.args.tree.now _
      (program_is c.args.tree.now c.as_slice-items.result.now c.in_ok-counts.counts c.in_ok-main.main c.in_ok-made.made c.in_ok-functions.functions
      c.as_slice-items.ensures c.in_ok-counts.ensures c.in_ok-main.ensures c.in_ok-made.ensures c.in_ok-functions.ensures) c.requires;
}

pub returns : goal.returns
returns c =
    program_is c.args.tree.now c.as_slice-items.result.now c.in_ok-counts.counts c.in_ok-main.main c.in_ok-made.made c.in_ok-functions.functions
    c.as_slice-items.ensures c.in_ok-counts.ensures c.in_ok-main.ensures c.in_ok-made.ensures c.in_ok-functions.ensures
