use Rattle.std.proofs.Common.{◌≡◌, ◌++◌, drop}
use Rattle.cilk_types.specs.Named.{named_of_list}
use Rattle.cilk_types.specs.Shown.{names_of}
use Rattle.cilk_types.proofs.named.+naming.Given as goal

abbrev pub invariant-add_all_named-loop-i : goal.invariant-add_all_named-loop-i
invariant-add_all_named-loop-i l =
    l.named ++ named_of_list (names_of l.scopes) (drop l.i l.es) ≡ l.fn.named ++ named_of_list (names_of l.scopes) l.es
