use Rattle.std.proofs.Common.{arith, ◌<◌, ◌≤◌, ◌+◌, length, ap}
use Rattle.std.proofs.lemmas.List.{take_all}
use Rattle.codegen_stmt.specs.Parts.{children_of}
use Rattle.codegen_stmt.proofs.Small.{sizes, small, size_of_parts, child_within, nodes_above, sizes_next, sizes_taken}
use Rattle.codegen_stmt.proofs.sizes.+size.Goals as goal

pub own_instructions-requires : goal.own_instructions-requires
own_instructions-requires t c =
    let s = (small c.args.around c.args.s.now).size in
    omega (arith, size_of_parts c.args.around c.args.s.now)

pub overflow_add-total : goal.overflow_add-total
overflow_add-total t c =
    let s = (small c.args.around c.args.s.now).size in
    omega (arith, size_of_parts c.args.around c.args.s.now, c.own_instructions.ensures, c.words_size.ensures)

pub size-total-requires : goal.size-total-requires
size-total-requires t c =
    let less = child_within (children_of c.args.s.now) c.loop-i.i c.child.result.now c.child.ensures in
    let above = nodes_above c.args.s.now in
    (omega (arith, c.decreases, less, above), omega (arith, less, above))

pub overflow_add-total-in-loop-i : goal.overflow_add-total-in-loop-i
overflow_add-total-in-loop-i t c =
    let cs = children_of c.args.s.now in
    let lt : c.loop-i.i < length cs = omega (arith, c.children-i-end.ensures) in
    let s = (small c.args.around c.args.s.now).size in
    omega (arith, sizes_next c.args.around cs c.loop-i.i c.child.result.now lt c.child.ensures, sizes_taken c.args.around (c.loop-i.i + 1) cs, size_of_parts c.args.around c.args.s.now)

pub loop-i-preserved : goal.loop-i-preserved
loop-i-preserved t c =
    let cs = children_of c.args.s.now in
    let lt : c.loop-i.i < length cs = omega (arith, c.children-i-end.ensures) in
    omega (arith, sizes_next c.args.around cs c.loop-i.i c.child.result.now lt c.child.ensures)

pub returns : goal.returns
returns t c =
    let le : length (children_of c.args.s.now) ≤ c.loop-i.i = omega (arith, c.children-i-end.ensures) in
    omega (arith, ap (sizes c.args.around) (take_all c.loop-i.i (children_of c.args.s.now) le), size_of_parts c.args.around c.args.s.now)
