use Rattle.std.proofs.Common.{◌<◌, ◌≤◌, ◌∙◌, length, sym, arith}
use Rattle.codegen_stmt.specs.Parts.{children_of}
use Rattle.codegen_stmt.proofs.Small.{child_within, nodes_above}
use Rattle.codegen_stmt.proofs.EachForms.{is_each, child_has, none_more, none_has}
use Rattle.codegen_stmt.proofs.functions.+is_spawning_each.Goals as goal

pub returns-in-Each : goal.returns-in-Each
returns-in-Each t c = sym (is_each c.args.s.now c.in-Each.pos c.in-Each.low c.in-Each.high c.in-Each.function c.in-Each.copies c.in-Each.is)

pub is_spawning_each-requires : goal.is_spawning_each-requires
is_spawning_each-requires t c =
    (omega (arith, c.decreases, child_within (children_of c.args.s.now) c.loop-i.i c.child.result.now c.child.ensures, nodes_above c.args.s.now), tt)

pub returns-then-is_spawning_each : goal.returns-then-is_spawning_each
returns-then-is_spawning_each t c =
    sym (child_has c.args.s.now c.loop-i.i c.child.result.now c.child.ensures (sym c.is_spawning_each.ensures ∙ c.if-is_spawning_each.true))

pub loop-i-preserved : goal.loop-i-preserved
loop-i-preserved t c =
    let lt : c.loop-i.i < length (children_of c.args.s.now) = omega (arith, c.children-i-end.ensures) in
    none_more (children_of c.args.s.now) c.loop-i.i c.child.result.now lt c.child.ensures c.loop-i.invariant (sym c.is_spawning_each.ensures ∙ c.if-is_spawning_each.false)

pub returns : goal.returns
returns t c =
    let le : length (children_of c.args.s.now) ≤ c.loop-i.i = omega (arith, c.children-i-end.ensures) in
    sym (none_has c.args.s.now c.loop-i.i c.in_default.not-Each le c.loop-i.invariant)
