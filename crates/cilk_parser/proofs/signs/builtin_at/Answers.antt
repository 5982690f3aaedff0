use Rattle.cilk_parser.proofs.SignTables.{builtin_at_table}
use Rattle.cilk_parser.proofs.signs.builtin_at.Goals as goal

pub returns-in-Some : goal.returns-in-Some
returns-in-Some c = builtin_at_table c.args.text.now c.args.token _ c.in-Some.ensures _ c.meaning.ensures
