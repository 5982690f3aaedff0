use Rattle.std.proofs.Common.{◌≡◌, drop}
use Rattle.cilk_model.specs.FirstFault.{earlier}
use Rattle.cilk_types.specs.Shown.{scopes_of}
use Rattle.cilk_types.specs.Walking.{fault_in_list, left_by_list}
use Rattle.cilk_types.proofs.statements.+walking.Given as goal

abbrev pub invariant-statements-loop-i : goal.invariant-statements-loop-i
invariant-statements-loop-i l = record {
  worst : earlier l.worst (fault_in_list l.gives (drop l.i l.body) (scopes_of l.scopes) l.inside) ≡ fault_in_list l.gives l.body (scopes_of l.fn.scopes) l.inside;
  known : left_by_list (drop l.i l.body) (scopes_of l.scopes) ≡ left_by_list l.body (scopes_of l.fn.scopes);
}
