use Rattle.std.proofs.Common.{arith}
use Rattle.codegen_stmt.specs.declared.around.Around.{Around}
use Rattle.codegen_stmt.proofs.Small.{small}
use Rattle.codegen_stmt.proofs.functions.around.Goals as goal

pub overflow_add-out : goal.overflow_add-out
overflow_add-out c =
    let plain : Around = record { spawns = c.args.f.now.spawns; kept = c.args.f.now.slots; broken = 0; continued = 0 } in
    let w = (small plain c.args.f.now.body).size in
    omega (arith, c.size-out.ensures)
