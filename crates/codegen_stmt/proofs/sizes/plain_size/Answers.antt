use Rattle.std.proofs.Common.{arith, ◌<◌, ◌+◌, length, ◌≡◌}
use Rattle.codegen_expr.proofs.Bounds.{each_within}
use Rattle.codegen_expr.proofs.Taken.{size_taken}
use Rattle.codegen_stmt.specs.Parts.{words_of}
use Rattle.codegen_stmt.proofs.Small.{word_within, taken_more, words_below, nodes_above}
use Rattle.codegen_stmt.proofs.sizes.plain_size.Goals as goal
use Rattle.codegen_stmt.proofs.sizes.plain_size.Goals.{in-Some, in_default}

pub measure-total-requires : goal.measure-total-requires
measure-total-requires c =
    omega (arith, word_within (words_of c.args.s.now) c.loop-i.i c.in-Some.e.now c.in-Some.ensures, words_below c.args.s.now, nodes_above c.args.s.now)

pub overflow_add-total : goal.overflow_add-total
overflow_add-total c =
    let ws = words_of c.args.s.now in
    let lt : c.loop-i.i < length ws = omega (arith, c.words-i-end.ensures) in
    let all = (each_within ws).size in
    omega (arith, taken_more ws c.loop-i.i c.in-Some.e.now lt c.in-Some.ensures, size_taken (c.loop-i.i + 1) ws, words_below c.args.s.now, nodes_above c.args.s.now)

pub loop-i-preserved : goal.loop-i-preserved
loop-i-preserved c =
    let ws = words_of c.args.s.now in
    let lt : c.loop-i.i < length ws = omega (arith, c.words-i-end.ensures) in
    elim c.match-word.branch [
      | in-Some w ↦ omega (arith, taken_more ws c.loop-i.i w.in-Some.e.now lt w.in-Some.ensures, w.measure-total.ensures, w.total-is)
      | in_default w ↦ absurd (let e : length ws ≡ 0 = w.in_default.ensures in omega arith)
    ]
