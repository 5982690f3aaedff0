use Rattle.std.proofs.Common.{◌≡◌, drop}
use Rattle.cilk_model.specs.FirstFault.{earlier, first_fault}
use Rattle.cilk_model.specs.Locals.{after_params}
use Rattle.cilk_model.specs.Breaks.{param_faults}
use Rattle.cilk_types.specs.Shown.{scopes_of}
use Rattle.cilk_types.proofs.items.declare_params.Given as goal

abbrev pub invariant-loop-i : goal.invariant-loop-i
invariant-loop-i l = record {
  worst : earlier l.worst (first_fault (param_faults (drop l.i l.params) (scopes_of l.scopes))) ≡ first_fault (param_faults l.params (scopes_of l.fn.scopes));
  known : after_params (drop l.i l.params) (scopes_of l.scopes) ≡ after_params l.params (scopes_of l.fn.scopes);
}
