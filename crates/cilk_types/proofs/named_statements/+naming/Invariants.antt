use Rattle.std.proofs.Common.{◌≡◌, ◌++◌, drop}
use Rattle.cilk_types.specs.Named.{named_within_list}
use Rattle.cilk_types.specs.Shown.{scopes_of}
use Rattle.cilk_types.specs.Walking.{left_by_list}
use Rattle.cilk_types.proofs.named_statements.+naming.Given as goal

abbrev pub invariant-add_all_named_in-loop-i : goal.invariant-add_all_named_in-loop-i
invariant-add_all_named_in-loop-i l = record {
  collected :
      l.named ++ named_within_list (drop l.i l.body) (scopes_of l.scopes)
      ≡ l.fn.named ++ named_within_list l.body (scopes_of l.fn.scopes);
  known : left_by_list (drop l.i l.body) (scopes_of l.scopes) ≡ left_by_list l.body (scopes_of l.fn.scopes);
}
