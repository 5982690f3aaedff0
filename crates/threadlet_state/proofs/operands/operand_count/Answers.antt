use Rattle.std.proofs.Common.{ap}
use Rattle.threadlet_code.specs.Naming.{function_named, format_named}
use Rattle.threadlet_state.proofs.operands.operand_count.Goals as goal

pub at-requires : goal.at-requires
at-requires c = c.requires.function c.in-Call.function (ap function_named c.in-Call.is)

pub at-requires-in-Spawn : goal.at-requires-in-Spawn
at-requires-in-Spawn c = c.requires.function c.in-Spawn.function (ap function_named c.in-Spawn.is)

pub at-requires-in-Print : goal.at-requires-in-Print
at-requires-in-Print c = c.requires.format c.in-Print.format (ap format_named c.in-Print.is)
