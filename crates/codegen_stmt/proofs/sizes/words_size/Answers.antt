use Rattle.std.proofs.Common.{arith, ap}
use Rattle.codegen_expr.proofs.Bounds.{within, each_within, total}
use Rattle.codegen_stmt.specs.Compiled.{spawned_words}
use Rattle.codegen_stmt.specs.Parts.{words_of}
use Rattle.codegen_stmt.proofs.Small.{nodes_above}
use Rattle.codegen_stmt.proofs.sizes.words_size.Goals as goal

pub measure-requires : goal.measure-requires
measure-requires c =
    let e = ap (λ o. total (spawned_words o (words_of c.args.s.now))) c.in-Some.ensures in
    omega (arith, e, nodes_above c.args.s.now)

pub overflow_add-result : goal.overflow_add-result
overflow_add-result c =
    let e = ap (λ o. total (spawned_words o (words_of c.args.s.now))) c.in-Some.ensures in
    let w = (within c.in-Some.e.now).size in
    let all = (each_within (words_of c.args.s.now)).size in
    omega (arith, e, nodes_above c.args.s.now, c.measure.ensures, c.plain_size-in-Some.ensures)
