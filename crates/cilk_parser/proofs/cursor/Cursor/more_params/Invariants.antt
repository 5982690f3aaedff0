use Rattle.std.proofs.Common.{◌≡◌, ◌≤◌, length}
use Rattle.cilk_model.specs.GrammarForms.{more_params}
use Rattle.cilk_parser.specs.Read.{read}
use Rattle.cilk_parser.specs.Gives.{prefixed}
use Rattle.cilk_parser.proofs.cursor.Cursor.more_params.Given as goal

abbrev pub invariant-more : goal.invariant-more
invariant-more l =
    (prefixed l.fn.all (read more_params l.fn.self) ≡ prefixed l.all (read more_params l.self)) × (length l.self ≤ length l.fn.self)

abbrev pub decreases-more : goal.decreases-more
decreases-more l = length l.self
