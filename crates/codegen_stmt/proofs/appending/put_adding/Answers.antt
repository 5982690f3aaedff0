use Rattle.std.proofs.Common.{◌+◌, ◌*◌, suc, arith}
use Rattle.std.proofs.lemmas.Result.{on_ok_weaker}
use Rattle.cilk_ast.specs.Nodes.{expression_nodes}
use Rattle.codegen_expr.specs.Emitted.{emitted}
use Rattle.codegen_expr.specs.Gains.{HasRoom}
use Rattle.codegen_expr.proofs.Bounds.{within}
use Rattle.codegen_expr.proofs.Emits.{sized}
use Rattle.codegen_expr.proofs.Emitting.{room_first}
use Rattle.codegen_expr.proofs.Gained.{room_left}
use Rattle.codegen_stmt.specs.Compiling.{exits_of}
use Rattle.codegen_stmt.proofs.Joined.{adding_gained}
use Rattle.codegen_stmt.proofs.appending.put_adding.Goals as goal

pub emit-requires-2 : goal.emit-requires-2
emit-requires-2 c =
    let nv = expression_nodes c.args.value.now in
    let room_b : HasRoom c.emit.new.draft (8 * nv + 8) =
    room_first c.args.draft.now c.emit.new.draft c.args.address.now (8 * nv + 8) (8 * suc (expression_nodes c.args.address.now + nv)) c.requires.room (omega arith) c.in_ok-emit.ensures in
    let depth = c.in_ok-emit.ensures.depth in
    room_left c.emit.new.draft c.put_double.new.draft _ _ 2 2 (8 * nv) (8 * nv + 8) c.in_ok-put_double.ensures room_b (omega arith) (omega arith) (omega arith) (omega arith)

pub returns : goal.returns
returns c =
    on_ok_weaker c.put_sum.result
    (adding_gained c.args.draft.now c.emit.new.draft c.put_double.new.draft c.emit-2.new.draft c.put_sum.new.draft c.args.pos (emitted c.args.address.now) (emitted c.args.value.now) (exits_of c.args.around)
    (sized c.args.address.now) (sized c.args.value.now) (within c.args.value.now).rises c.requires.start c.in_ok-emit.ensures c.in_ok-put_double.ensures c.in_ok-emit-2.ensures)
    c.put_sum.ensures
