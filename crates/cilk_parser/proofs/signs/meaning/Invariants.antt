use Rattle.std.proofs.Common.{◌≡◌, drop, map}
use Rattle.cilk_parser.specs.Lookup.{meaning_of}
use Rattle.cilk_parser.proofs.signs.meaning.Given as goal

abbrev pub invariant-loop-in_class : goal.invariant-loop-in_class
invariant-loop-in_class g l =
    meaning_of l.class l.spelling (map (λ entry. (entry.0, entry.1.now, entry.2)) l.table)
    ≡ meaning_of l.class l.spelling (map (λ entry. (entry.0, entry.1.now, entry.2)) (drop l.in_class-index l.table))
