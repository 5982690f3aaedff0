use Rattle.std.proofs.Common.{◌≡◌, ◌≤◌, length, map, reverse, take}
use Rattle.cilk_model.specs.Scopes.{local_named}
use Rattle.cilk_types.specs.Shown.{local_of, shown, scopes_of}
use Rattle.cilk_types.proofs.lookup.local_named.Given as goal

abbrev pub invariant-loop-open : goal.invariant-loop-open
invariant-loop-open l = (l.open ≤ length l.scopes.around) ×
    (local_named l.name (map (λ m. shown local_of m.entries) (reverse (take l.open l.scopes.around))) ≡ local_named l.name (scopes_of l.scopes).around)

abbrev pub decreases-loop-open : goal.decreases-loop-open
decreases-loop-open l = l.open
