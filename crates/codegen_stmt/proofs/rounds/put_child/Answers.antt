use Rattle.std.proofs.Common.{◌<◌, length, arith}
use Rattle.threadlet_code.specs.declared.instr.Instr.TheVariants as by
use Rattle.codegen_expr.specs.Piece.{placeless}
use Rattle.codegen_stmt.proofs.Joined.{copy_gained}
use Rattle.codegen_stmt.proofs.rounds.put_child.Goals as goal

pub loop-i-preserved : goal.loop-i-preserved
loop-i-preserved c =
    let lt : c.loop-i.i < length c.args.copies.now = omega (arith, c.len-i-end.ensures) in
    copy_gained c.args.draft.now c.loop-i.draft c.put-in-loop-i.new.self (placeless (by.Get c.args.kept)) c.args.copies.now c.loop-i.i c.at.result.now lt c.at.ensures c.loop-i.invariant c.in_ok-put-2.ensures
