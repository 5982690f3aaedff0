use Rattle.std.proofs.Common.{◌≡◌, ◌+◌, ◌*◌, ◌≤◌, length}
use Rattle.cilk_model.specs.GrammarForms.{body}
use Rattle.cilk_parser.specs.Read.{read}
use Rattle.cilk_parser.specs.Gives.{prefixed}
use Rattle.cilk_parser.proofs.cursor.Cursor.+statements.Given as goal

abbrev pub decreases-statement : goal.decreases-statement
decreases-statement l = 20 * length l.self.now + 1

abbrev pub decreases-nested : goal.decreases-nested
decreases-nested l = 20 * length l.self.now + 2

abbrev pub decreases-if_statement : goal.decreases-if_statement
decreases-if_statement l = 20 * length l.self.now

abbrev pub decreases-while_loop : goal.decreases-while_loop
decreases-while_loop l = 20 * length l.self.now

abbrev pub decreases-for_loop : goal.decreases-for_loop
decreases-for_loop l = 20 * length l.self.now

abbrev pub decreases-cilk_for_loop : goal.decreases-cilk_for_loop
decreases-cilk_for_loop l = 20 * length l.self.now

abbrev pub decreases-block : goal.decreases-block
decreases-block l = 20 * length l.self.now

abbrev pub decreases-body : goal.decreases-body
decreases-body l = 20 * length l.self.now + 3

abbrev pub decreases-part : goal.decreases-part
decreases-part l = 20 * length l.self.now + 2

abbrev pub invariant-body-parts : goal.invariant-body-parts
invariant-body-parts l =
    (read body l.fn.self ≡ prefixed l.all (read body l.self)) × (length l.self ≤ length l.fn.self)

abbrev pub decreases-body-parts : goal.decreases-body-parts
decreases-body-parts l = length l.self
