use Rattle.std.proofs.Common.{◌≡◌, ◌≤◌, length}
use Rattle.cilk_model.specs.GrammarForms.{items}
use Rattle.cilk_parser.specs.Read.{read}
use Rattle.cilk_parser.specs.Gives.{prefixed}
use Rattle.cilk_parser.proofs.cursor.Cursor.items.Given as goal

abbrev pub invariant-items : goal.invariant-items
invariant-items l =
    (read items l.fn.self ≡ prefixed l.all (read items l.self)) × (length l.self ≤ length l.fn.self)

abbrev pub decreases-items : goal.decreases-items
decreases-items l = length l.self
