use Rattle.std.proofs.Common.{◌<◌, ◌+◌, ◌*◌, ◌∙◌, length, take, sym, ap, arith}
use Rattle.std.proofs.lemmas.Result.{on_ok_weaker}
use Rattle.cilk_ast.specs.declared.program.Expr as code
use Rattle.cilk_ast.specs.declared.program.Expr.{Expr}
use Rattle.cilk_ast.specs.Nodes.{expression_nodes}
use Rattle.codegen_expr.specs.Emitted.{emitted}
use Rattle.codegen_expr.specs.Parts.{parts_of}
use Rattle.codegen_expr.specs.Gains.{HasRoom}
use Rattle.codegen_expr.proofs.Bounds.{within, parts_total, nodes_above}
use Rattle.codegen_expr.proofs.Taken.{next_less, total_taken}
use Rattle.codegen_expr.proofs.Emitting.{both_nodes, either_nodes, both_gained, either_gained, room_less, room_first, room_test, no_choice, finished_gained, next_gained, room_behind, none_gained}
use Rattle.codegen_expr.proofs.expressions.+emit.Goals as goal

pub emit-requires : goal.emit-requires
emit-requires t c =
    let n = both_nodes c.args.e.now c.in-Both.pos c.in-Both.left c.in-Both.right c.in-Both.is in
    let nl = ap expression_nodes c.deref.ensures in
    (omega (arith, c.decreases), room_less c.args.draft.now (8 * expression_nodes c.deref.result.now) (8 * expression_nodes c.args.e.now) c.requires (omega arith))

pub measure-requires : goal.measure-requires
measure-requires t c =
    let n = both_nodes c.args.e.now c.in-Both.pos c.in-Both.left c.in-Both.right c.in-Both.is in
    let nr = ap expression_nodes c.deref-in-Both.ensures in
    omega (arith, c.requires.body)

pub put_test-requires : goal.put_test-requires
put_test-requires t c =
    let n = both_nodes c.args.e.now c.in-Both.pos c.in-Both.left c.in-Both.right c.in-Both.is in
    let nl = ap expression_nodes c.deref.ensures in
    let room_b : HasRoom c.emit.new.draft (8 * expression_nodes c.in-Both.right + 14) =
    room_first c.args.draft.now c.emit.new.draft c.deref.result.now (8 * expression_nodes c.in-Both.right + 14) (8 * expression_nodes c.args.e.now) c.requires (omega arith) c.in_ok-emit-in-Both.ensures in
    let nr = ap expression_nodes c.deref-in-Both.ensures in
    let w = (within c.deref-in-Both.result.now).size in
    let is = c.measure.ensures in
    omega (arith, room_b.body)

pub emit-requires-in-Both : goal.emit-requires-in-Both
emit-requires-in-Both t c =
    let n = both_nodes c.args.e.now c.in-Both.pos c.in-Both.left c.in-Both.right c.in-Both.is in
    let nl = ap expression_nodes c.deref.ensures in
    let room_b : HasRoom c.emit.new.draft (8 * expression_nodes c.in-Both.right + 14) =
    room_first c.args.draft.now c.emit.new.draft c.deref.result.now (8 * expression_nodes c.in-Both.right + 14) (8 * expression_nodes c.args.e.now) c.requires (omega arith) c.in_ok-emit-in-Both.ensures in
    let depth = c.in_ok-emit-in-Both.ensures.depth in
    let room_c : HasRoom c.put_test.new.self (8 * expression_nodes c.in-Both.right + 11) =
    room_test c.emit.new.draft c.put_test.new.self _ c.args.draft.now.depth c.args.draft.now.depth (8 * expression_nodes c.in-Both.right + 11) (8 * expression_nodes c.in-Both.right + 14) room_b (omega arith) (omega arith) c.in_ok-put_test-in-Both.ensures in
    let nr = ap expression_nodes c.deref-in-Both-2.ensures in
    (omega (arith, c.decreases), room_less c.put_test.new.self (8 * expression_nodes c.deref-in-Both-2.result.now) (8 * expression_nodes c.in-Both.right + 11) room_c (omega arith))

pub put_judge-requires-clause-place : goal.put_judge-requires-clause-place
put_judge-requires-clause-place t c =
    let n = both_nodes c.args.e.now c.in-Both.pos c.in-Both.left c.in-Both.right c.in-Both.is in
    let nl = ap expression_nodes c.deref.ensures in
    let room_b : HasRoom c.emit.new.draft (8 * expression_nodes c.in-Both.right + 14) =
    room_first c.args.draft.now c.emit.new.draft c.deref.result.now (8 * expression_nodes c.in-Both.right + 14) (8 * expression_nodes c.args.e.now) c.requires (omega arith) c.in_ok-emit-in-Both.ensures in
    let depth = c.in_ok-emit-in-Both.ensures.depth in
    let room_c : HasRoom c.put_test.new.self (8 * expression_nodes c.in-Both.right + 11) =
    room_test c.emit.new.draft c.put_test.new.self _ c.args.draft.now.depth c.args.draft.now.depth (8 * expression_nodes c.in-Both.right + 11) (8 * expression_nodes c.in-Both.right + 14) room_b (omega arith) (omega arith) c.in_ok-put_test-in-Both.ensures in
    let nr = ap expression_nodes c.deref-in-Both-2.ensures in
    let room_f : HasRoom c.emit-in-Both.new.draft 4 = room_first c.put_test.new.self c.emit-in-Both.new.draft c.deref-in-Both-2.result.now 4 (8 * expression_nodes c.in-Both.right + 11) room_c (omega arith) c.in_ok-emit-in-Both-2.ensures in
    room_f.body

pub put_judge-requires-clause-depth : goal.put_judge-requires-clause-depth
put_judge-requires-clause-depth t c =
    let n = both_nodes c.args.e.now c.in-Both.pos c.in-Both.left c.in-Both.right c.in-Both.is in
    omega (arith, c.requires.depth)

pub returns-in_ok-emit-in-Both-2 : goal.returns-in_ok-emit-in-Both-2
returns-in_ok-emit-in-Both-2 t c =
    let is = c.in-Both.is ∙ ap (λ l. code.Both c.in-Both.pos l c.in-Both.right) (sym c.deref.ensures) ∙ ap (code.Both c.in-Both.pos c.deref.result.now) (sym c.deref-in-Both-2.ensures) in
    let size = c.measure.ensures ∙ ap (λ e. (emitted e).size) (c.deref-in-Both.ensures ∙ sym c.deref-in-Both-2.ensures) in
    on_ok_weaker c.put_judge.result
    (both_gained c.args.draft.now c.emit.new.draft c.put_test.new.self c.emit-in-Both.new.draft c.put_judge.new.self c.args.e.now c.in-Both.pos c.deref.result.now c.deref-in-Both-2.result.now c.measure.result is size c.in_ok-emit-in-Both.ensures c.in_ok-put_test-in-Both.ensures c.in_ok-emit-in-Both-2.ensures)
    c.put_judge.ensures

pub emit-requires-in-Either : goal.emit-requires-in-Either
emit-requires-in-Either t c =
    let n = either_nodes c.args.e.now c.in-Either.pos c.in-Either.left c.in-Either.right c.in-Either.is in
    let nl = ap expression_nodes c.deref-in-Either.ensures in
    (omega (arith, c.decreases), room_less c.args.draft.now (8 * expression_nodes c.deref-in-Either.result.now) (8 * expression_nodes c.args.e.now) c.requires (omega arith))

pub measure-requires-in-Either : goal.measure-requires-in-Either
measure-requires-in-Either t c =
    let n = either_nodes c.args.e.now c.in-Either.pos c.in-Either.left c.in-Either.right c.in-Either.is in
    let nr = ap expression_nodes c.deref-in-Either-2.ensures in
    omega (arith, c.requires.body)

pub put_skip-requires-clause-place : goal.put_skip-requires-clause-place
put_skip-requires-clause-place t c =
    let n = either_nodes c.args.e.now c.in-Either.pos c.in-Either.left c.in-Either.right c.in-Either.is in
    let nl = ap expression_nodes c.deref-in-Either.ensures in
    let room_b : HasRoom c.emit-in-Either.new.draft (8 * expression_nodes c.in-Either.right + 14) =
    room_first c.args.draft.now c.emit-in-Either.new.draft c.deref-in-Either.result.now (8 * expression_nodes c.in-Either.right + 14) (8 * expression_nodes c.args.e.now) c.requires (omega arith) c.in_ok-emit-in-Either.ensures in
    let nr = ap expression_nodes c.deref-in-Either-2.ensures in
    let w = (within c.deref-in-Either-2.result.now).size in
    let is = c.measure-in-Either.ensures in
    omega (arith, room_b.body)

pub emit-requires-in-Either-2 : goal.emit-requires-in-Either-2
emit-requires-in-Either-2 t c =
    let n = either_nodes c.args.e.now c.in-Either.pos c.in-Either.left c.in-Either.right c.in-Either.is in
    let nl = ap expression_nodes c.deref-in-Either.ensures in
    let room_b : HasRoom c.emit-in-Either.new.draft (8 * expression_nodes c.in-Either.right + 14) =
    room_first c.args.draft.now c.emit-in-Either.new.draft c.deref-in-Either.result.now (8 * expression_nodes c.in-Either.right + 14) (8 * expression_nodes c.args.e.now) c.requires (omega arith) c.in_ok-emit-in-Either.ensures in
    let depth = c.in_ok-emit-in-Either.ensures.depth in
    let room_c : HasRoom c.put_skip.new.self (8 * expression_nodes c.in-Either.right + 11) =
    room_test c.emit-in-Either.new.draft c.put_skip.new.self _ c.args.draft.now.depth (c.args.draft.now.depth + 1) (8 * expression_nodes c.in-Either.right + 11) (8 * expression_nodes c.in-Either.right + 14) room_b (omega arith) (omega arith) c.in_ok-put_skip-in-Either.ensures in
    let nr = ap expression_nodes c.deref-in-Either-3.ensures in
    (omega (arith, c.decreases), room_less c.put_skip.new.self (8 * expression_nodes c.deref-in-Either-3.result.now) (8 * expression_nodes c.in-Either.right + 11) room_c (omega arith))

pub put_judge-requires-in-Either-clause-place : goal.put_judge-requires-in-Either-clause-place
put_judge-requires-in-Either-clause-place t c =
    let n = either_nodes c.args.e.now c.in-Either.pos c.in-Either.left c.in-Either.right c.in-Either.is in
    let nl = ap expression_nodes c.deref-in-Either.ensures in
    let room_b : HasRoom c.emit-in-Either.new.draft (8 * expression_nodes c.in-Either.right + 14) =
    room_first c.args.draft.now c.emit-in-Either.new.draft c.deref-in-Either.result.now (8 * expression_nodes c.in-Either.right + 14) (8 * expression_nodes c.args.e.now) c.requires (omega arith) c.in_ok-emit-in-Either.ensures in
    let depth = c.in_ok-emit-in-Either.ensures.depth in
    let room_c : HasRoom c.put_skip.new.self (8 * expression_nodes c.in-Either.right + 11) =
    room_test c.emit-in-Either.new.draft c.put_skip.new.self _ c.args.draft.now.depth (c.args.draft.now.depth + 1) (8 * expression_nodes c.in-Either.right + 11) (8 * expression_nodes c.in-Either.right + 14) room_b (omega arith) (omega arith) c.in_ok-put_skip-in-Either.ensures in
    let nr = ap expression_nodes c.deref-in-Either-3.ensures in
    let room_f : HasRoom c.emit-in-Either-2.new.draft 4 = room_first c.put_skip.new.self c.emit-in-Either-2.new.draft c.deref-in-Either-3.result.now 4 (8 * expression_nodes c.in-Either.right + 11) room_c (omega arith) c.in_ok-emit-in-Either-2.ensures in
    room_f.body

pub put_judge-requires-in-Either-clause-depth : goal.put_judge-requires-in-Either-clause-depth
put_judge-requires-in-Either-clause-depth t c =
    let n = either_nodes c.args.e.now c.in-Either.pos c.in-Either.left c.in-Either.right c.in-Either.is in
    omega (arith, c.requires.depth)

pub returns-in_ok-emit-in-Either-2 : goal.returns-in_ok-emit-in-Either-2
returns-in_ok-emit-in-Either-2 t c =
    let is = c.in-Either.is ∙ ap (λ l. code.Either c.in-Either.pos l c.in-Either.right) (sym c.deref-in-Either.ensures) ∙ ap (code.Either c.in-Either.pos c.deref-in-Either.result.now) (sym c.deref-in-Either-3.ensures) in
    let size = c.measure-in-Either.ensures ∙ ap (λ e. (emitted e).size) (c.deref-in-Either-2.ensures ∙ sym c.deref-in-Either-3.ensures) in
    on_ok_weaker c.put_judge-in-Either.result
    (either_gained c.args.draft.now c.emit-in-Either.new.draft c.put_skip.new.self c.emit-in-Either-2.new.draft c.put_judge-in-Either.new.self c.args.e.now c.in-Either.pos c.deref-in-Either.result.now c.deref-in-Either-3.result.now c.measure-in-Either.result is size c.in_ok-emit-in-Either.ensures c.in_ok-put_skip-in-Either.ensures c.in_ok-emit-in-Either-2.ensures)
    c.put_judge-in-Either.ensures

pub put_skip-requires-clause-depth : goal.put_skip-requires-clause-depth
put_skip-requires-clause-depth t c =
    let n = either_nodes c.args.e.now c.in-Either.pos c.in-Either.left c.in-Either.right c.in-Either.is in
    omega (arith, c.requires.depth)

pub emit-requires-in-loop-i : goal.emit-requires-in-loop-i
emit-requires-in-loop-i t c =
    let lt : c.loop-i.i < length (parts_of c.args.e.now) = omega (arith, c.parts-i-end.ensures) in
    let less = next_less c.args.e.now c.loop-i.i c.part.result.now lt c.part.ensures in
    (omega (arith, c.decreases), room_behind c.args.draft.now c.loop-i.draft (take c.loop-i.i (parts_of c.args.e.now)) (8 * expression_nodes c.part.result.now) (8 * expression_nodes c.args.e.now) c.requires (omega arith) c.loop-i.invariant)

pub loop-i-preserved : goal.loop-i-preserved
loop-i-preserved t c =
    let lt : c.loop-i.i < length (parts_of c.args.e.now) = omega (arith, c.parts-i-end.ensures) in
    next_gained c.args.draft.now c.loop-i.draft c.emit-in-loop-i.new.draft c.args.e.now c.loop-i.i c.part.result.now lt c.part.ensures c.loop-i.invariant c.in_ok-emit-in_default.ensures

pub overflow_add-depth : goal.overflow_add-depth
overflow_add-depth t c = omega (arith, c.requires.depth, nodes_above c.args.e.now)

pub put_own-requires : goal.put_own-requires
put_own-requires t c =
    let total = parts_total c.args.e.now in
    let taken = total_taken c.loop-i.i (parts_of c.args.e.now) in
    let room = room_behind c.args.draft.now c.loop-i.draft (take c.loop-i.i (parts_of c.args.e.now)) 0 (8 * expression_nodes c.args.e.now) c.requires (omega arith) c.loop-i.invariant in
    record { plain = no_choice c.args.e.now c.in_default.not-Both c.in_default.not-Either; formats = omega (arith, room.formats) }

pub returns-after-loop-i : goal.returns-after-loop-i
returns-after-loop-i t c =
    on_ok_weaker c.put_own.result
    (finished_gained c.args.draft.now c.loop-i.draft c.put_own.new.draft c.args.e.now c.loop-i.i (no_choice c.args.e.now c.in_default.not-Both c.in_default.not-Either) (omega (arith, c.parts-i-end.ensures)) c.loop-i.invariant)
    c.put_own.ensures

pub loop-i-init : goal.loop-i-init
loop-i-init t c = none_gained c.args.draft.now (8 * expression_nodes c.args.e.now) c.requires
