use Rattle.std.proofs.Common.{arith, ◌<◌, ◌+◌, length}
use Rattle.codegen_expr.specs.Parts.{parts_of}
use Rattle.codegen_expr.proofs.Taken.{next_less, next_size, next_within, all_size}
use Rattle.codegen_expr.proofs.sizes.+measure.Goals as goal

pub measure-size-requires : goal.measure-size-requires
measure-size-requires t c =
    let lt : c.loop-i.i < length (parts_of c.args.e.now) = omega (arith, c.parts-i-end.ensures) in
    let less = next_less c.args.e.now c.loop-i.i c.part.result.now lt c.part.ensures in
    (omega (arith, c.decreases, less), omega (arith, less))

pub overflow_add-size : goal.overflow_add-size
overflow_add-size t c =
    let lt : c.loop-i.i < length (parts_of c.args.e.now) = omega (arith, c.parts-i-end.ensures) in
    omega (arith, next_size c.args.e.now c.loop-i.i c.part.result.now lt c.part.ensures, next_within c.args.e.now (c.loop-i.i + 1))

pub loop-i-preserved : goal.loop-i-preserved
loop-i-preserved t c =
    let lt : c.loop-i.i < length (parts_of c.args.e.now) = omega (arith, c.parts-i-end.ensures) in
    omega (arith, next_size c.args.e.now c.loop-i.i c.part.result.now lt c.part.ensures)

pub returns : goal.returns
returns t c = omega (arith, all_size c.args.e.now c.loop-i.i (omega (arith, c.parts-i-end.ensures)))
