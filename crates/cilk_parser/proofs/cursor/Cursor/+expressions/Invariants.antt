use Rattle.std.proofs.Common.{◌≡◌, ◌+◌, ◌-◌, ◌*◌, ◌<◌, ◌≤◌, length}
use Rattle.cilk_model.specs.GrammarForms.{expression, further, indexes, more_args}
use Rattle.cilk_parser.specs.Read.{read}
use Rattle.cilk_parser.specs.Gives.{prefixed}
use Rattle.cilk_parser.proofs.cursor.Cursor.+expressions.Given as goal

abbrev pub decreases-expression : goal.decreases-expression
decreases-expression l = 17 * length l.self.now + l.looseness + 4

abbrev pub decreases-unary : goal.decreases-unary
decreases-unary l = 17 * length l.self.now + 3

abbrev pub decreases-postfix : goal.decreases-postfix
decreases-postfix l = 17 * length l.self.now + 2

abbrev pub decreases-primary : goal.decreases-primary
decreases-primary l = 17 * length l.self.now + 1

abbrev pub decreases-named : goal.decreases-named
decreases-named l = 17 * length l.self.now

abbrev pub decreases-bracketed : goal.decreases-bracketed
decreases-bracketed l = 17 * length l.self.now + 15

abbrev pub decreases-cast : goal.decreases-cast
decreases-cast l = 17 * length l.self.now

abbrev pub decreases-builtin_call : goal.decreases-builtin_call
decreases-builtin_call l = 17 * length l.self.now

abbrev pub decreases-print : goal.decreases-print
decreases-print l = 17 * length l.self.now

abbrev pub decreases-replicated_init : goal.decreases-replicated_init
decreases-replicated_init l = 17 * length l.self.now + 15

abbrev pub decreases-init_at : goal.decreases-init_at
decreases-init_at l = 17 * length l.self.now + 15

abbrev pub decreases-args : goal.decreases-args
decreases-args l = 17 * length l.self.now + 15

abbrev pub decreases-indexes : goal.decreases-indexes
decreases-indexes l = 17 * length l.self.now

abbrev pub decreases-more_args : goal.decreases-more_args
decreases-more_args l = 17 * length l.self.now

abbrev pub invariant-expression-further : goal.invariant-expression-further
invariant-expression-further l =
    (read (expression l.fn.looseness) l.fn.self ≡ read (further (l.fn.looseness - 1) l.left) l.self) × (length l.self ≤ length l.fn.self) × (0 < l.fn.looseness)

abbrev pub decreases-expression-further : goal.decreases-expression-further
decreases-expression-further l = length l.self

abbrev pub invariant-indexes-more : goal.invariant-indexes-more
invariant-indexes-more l =
    (read (indexes l.fn.whole) l.fn.self ≡ read (indexes l.indexed) l.self) × (length l.self ≤ length l.fn.self)

abbrev pub decreases-indexes-more : goal.decreases-indexes-more
decreases-indexes-more l = length l.self

abbrev pub invariant-more_args-more : goal.invariant-more_args-more
invariant-more_args-more l =
    (prefixed l.fn.all (read more_args l.fn.self) ≡ prefixed l.all (read more_args l.self)) × (length l.self ≤ length l.fn.self)

abbrev pub decreases-more_args-more : goal.decreases-more_args-more
decreases-more_args-more l = length l.self
