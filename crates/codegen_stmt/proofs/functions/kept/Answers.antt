use Rattle.codegen_stmt.proofs.EachForms.{kept_true, kept_false}
use Rattle.codegen_stmt.proofs.functions.kept.Goals as goal

pub returns-then-is_spawning_each : goal.returns-then-is_spawning_each
returns-then-is_spawning_each c = kept_true c.args.body.now c.is_spawning_each.result c.is_spawning_each.ensures c.if-is_spawning_each.true

pub returns-else-is_spawning_each : goal.returns-else-is_spawning_each
returns-else-is_spawning_each c = kept_false c.args.body.now c.is_spawning_each.result c.is_spawning_each.ensures c.if-is_spawning_each.false
