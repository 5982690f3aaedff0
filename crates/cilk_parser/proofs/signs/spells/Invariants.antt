use Rattle.std.proofs.Common.{◌≡◌, drop, map}
use Rattle.cilk_parser.specs.Lookup.{is_spelled_in}
use Rattle.cilk_parser.proofs.signs.spells.Given as goal

abbrev pub invariant-loop-spelled : goal.invariant-loop-spelled
invariant-loop-spelled g l =
    is_spelled_in l.spelling (map (λ entry. (entry.0, entry.1.now, entry.2)) l.table)
    ≡ is_spelled_in l.spelling (map (λ entry. (entry.0, entry.1.now, entry.2)) (drop l.spelled-index l.table))
