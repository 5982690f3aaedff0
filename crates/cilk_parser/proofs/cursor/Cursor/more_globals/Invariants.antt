use Rattle.std.proofs.Common.{◌≡◌, ◌≤◌, length}
use Rattle.cilk_model.specs.GrammarForms.{more_globals}
use Rattle.cilk_parser.specs.Read.{read}
use Rattle.cilk_parser.specs.Gives.{prefixed}
use Rattle.cilk_parser.proofs.cursor.Cursor.more_globals.Given as goal

abbrev pub invariant-more : goal.invariant-more
invariant-more l =
    (prefixed l.fn.all (read (more_globals l.fn.replicated) l.fn.self) ≡ prefixed l.all (read (more_globals l.fn.replicated) l.self)) × (length l.self ≤ length l.fn.self)

abbrev pub decreases-more : goal.decreases-more
decreases-more l = length l.self
