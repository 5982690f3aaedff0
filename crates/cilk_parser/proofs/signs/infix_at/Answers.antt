use Rattle.cilk_parser.proofs.SignTables.{infix_at_table}
use Rattle.cilk_parser.proofs.signs.infix_at.Goals as goal

pub returns-in-Some : goal.returns-in-Some
returns-in-Some c = infix_at_table c.args.looseness c.args.text.now c.args.token _ c.in-Some.ensures _ c.meaning.ensures
