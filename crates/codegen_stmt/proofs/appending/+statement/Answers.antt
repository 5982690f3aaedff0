use Rattle.std.proofs.Common.{◌≡◌, ◌<◌, ◌≤◌, ◌+◌, ◌*◌, ◌∙◌, length, take, sym, ap, arith, subst, suc, [], ◌∷◌, refl}
use Rattle.std.proofs.lemmas.Result.{on_ok_weaker}
use Rattle.std.proofs.lemmas.List.{take_all}
use Rattle.cilk_ast.specs.declared.program.Stmt as code
use Rattle.cilk_ast.specs.Nodes.{expression_nodes, statement_nodes}
use Rattle.cilk_ast.proofs.StatementForms.{if_form, loop_form}
use Rattle.codegen_expr.specs.Emitted.{emitted}
use Rattle.threadlet_code.specs.declared.instr.Instr.TheVariants as by
use Rattle.codegen_expr.specs.Piece.{placeless}
use Rattle.codegen_expr.specs.Gains.{Gains, HasRoom}
use Rattle.codegen_expr.proofs.Emits.{sized}
use Rattle.codegen_expr.proofs.Emitting.{room_less, room_first}
use Rattle.codegen_stmt.specs.Compiling.{exits_of, GainsStretch, stretch_of}
use Rattle.codegen_stmt.proofs.Lengths.{long}
use Rattle.codegen_stmt.proofs.Small.{small}
use Rattle.codegen_stmt.proofs.Joined.{choosing_gained, looping_gained, spawning_gained, room_stretch, room_lines}
use Rattle.codegen_stmt.proofs.Blocks.{stretches, stretches_long, stretches_small, next_stretched, block_stretch}
use Rattle.codegen_stmt.proofs.Counted.{nodes_if, nodes_loop, nodes_each, nodes_block, totals_next}
use Rattle.codegen_stmt.proofs.appending.+statement.Goals as goal

pub statement-requires : goal.statement-requires
statement-requires t c =
    let n = nodes_block c.args.s.now c.in-Block.body c.in-Block.is in
    let lt : c.loop-i.i < length c.in-Block.body = omega (arith, c.len-i-end.ensures) in
    let next = totals_next c.in-Block.body c.loop-i.i c.at.result.now lt c.at.ensures in
    let w = stretches_small c.args.around (take c.loop-i.i c.in-Block.body) in
    let size = w.size in let formats = w.formats in (
      omega (arith, c.decreases),
      (
        c.loop-i.invariant.depth,
        (
          c.requires.kept,
          room_stretch c.args.draft.now c.loop-i.draft (stretches c.args.around (take c.loop-i.i c.in-Block.body)) (exits_of c.args.around) (8 * statement_nodes c.at.result.now) (8 * statement_nodes c.args.s.now) c.requires.room
              (stretches_long c.args.around (take c.loop-i.i c.in-Block.body)) (omega arith) (omega arith) c.loop-i.invariant,
        ),
      ),
    )

pub loop-i-preserved : goal.loop-i-preserved
loop-i-preserved t c =
    let lt : c.loop-i.i < length c.in-Block.body = omega (arith, c.len-i-end.ensures) in
    next_stretched c.args.draft.now c.loop-i.draft c.statement.new.draft c.args.around c.in-Block.body c.loop-i.i c.at.result.now (exits_of c.args.around) lt c.at.ensures c.loop-i.invariant c.in_ok-statement-in-Block.ensures

pub returns-after-loop-i : goal.returns-after-loop-i
returns-after-loop-i t c =
    let le : length c.in-Block.body ≤ c.loop-i.i = omega (arith, c.len-i-end.ensures) in
    subst (λ x. GainsStretch c.args.draft.now c.loop-i.draft x (exits_of c.args.around)) (ap (stretches c.args.around) (take_all c.loop-i.i c.in-Block.body le) ∙ block_stretch c.args.around c.args.s.now c.in-Block.body c.in-Block.is) c.loop-i.invariant

pub emit-requires-in-Each : goal.emit-requires-in-Each
emit-requires-in-Each t c =
    let n = nodes_each c.args.s.now c.in-Each.pos c.in-Each.low c.in-Each.high c.in-Each.function c.in-Each.copies c.in-Each.is in
    let nh = expression_nodes c.in-Each.high in
    let nc = length c.in-Each.copies in
    let room_b : HasRoom c.emit.new.draft (8 * (nh + nc) + 14) =
    room_first c.args.draft.now c.emit.new.draft c.in-Each.low (8 * (nh + nc) + 14) (8 * statement_nodes c.args.s.now) c.requires.room (omega arith) c.in_ok-emit-in-Each.ensures in
    let room_c : HasRoom c.put.new.self (8 * (nh + nc) + 13) =
    room_lines c.emit.new.draft c.put.new.self _ 0 (8 * (nh + nc) + 13) (8 * (nh + nc) + 14) room_b (omega arith) c.in_ok-put-in-Each.ensures in
    room_less c.put.new.self (8 * nh) (8 * (nh + nc) + 13) room_c (omega arith)

pub put_rounds-requires-clause-room : goal.put_rounds-requires-clause-room
put_rounds-requires-clause-room t c =
    let n = nodes_each c.args.s.now c.in-Each.pos c.in-Each.low c.in-Each.high c.in-Each.function c.in-Each.copies c.in-Each.is in
    let nh = expression_nodes c.in-Each.high in
    let nc = length c.in-Each.copies in
    let room_b : HasRoom c.emit.new.draft (8 * (nh + nc) + 14) =
    room_first c.args.draft.now c.emit.new.draft c.in-Each.low (8 * (nh + nc) + 14) (8 * statement_nodes c.args.s.now) c.requires.room (omega arith) c.in_ok-emit-in-Each.ensures in
    let room_c : HasRoom c.put.new.self (8 * (nh + nc) + 13) =
    room_lines c.emit.new.draft c.put.new.self _ 0 (8 * (nh + nc) + 13) (8 * (nh + nc) + 14) room_b (omega arith) c.in_ok-put-in-Each.ensures in
    let room_d : HasRoom c.emit-in-Each.new.draft (8 * nc + 19) =
    room_first c.put.new.self c.emit-in-Each.new.draft c.in-Each.high (8 * nc + 19) (8 * (nh + nc) + 13) room_c (omega arith) c.in_ok-emit-in-Each-2.ensures in
    let room_e : HasRoom c.put-in-Each.new.self (8 * nc + 18) =
    room_lines c.emit-in-Each.new.draft c.put-in-Each.new.self _ 0 (8 * nc + 18) (8 * nc + 19) room_d (omega arith) c.in_ok-put-in-Each-2.ensures in
    omega (arith, room_e.body)

pub returns-in_ok-put-in-Each-2 : goal.returns-in_ok-put-in-Each-2
returns-in_ok-put-in-Each-2 t c =
    on_ok_weaker c.put_rounds.result
    (λ p. subst (λ x. GainsStretch c.args.draft.now c.put_rounds.new.draft (stretch_of c.args.around x) (exits_of c.args.around)) (sym c.in-Each.is)
    (spawning_gained c.args.draft.now c.emit.new.draft c.put.new.self c.emit-in-Each.new.draft c.put-in-Each.new.self c.put_rounds.new.draft c.in-Each.pos c.args.around.kept (emitted c.in-Each.low) (emitted c.in-Each.high)
    c.in-Each.function c.in-Each.copies (exits_of c.args.around) (sized c.in-Each.low) (sized c.in-Each.high) c.requires.start c.in_ok-emit-in-Each.ensures c.in_ok-put-in-Each.ensures c.in_ok-emit-in-Each-2.ensures
    (subst (λ k. Gains c.emit-in-Each.new.draft c.put-in-Each.new.self (placeless (by.Set k) ∷ []) [] 0 0) (omega arith) c.in_ok-put-in-Each-2.ensures) p))
    c.put_rounds.ensures

pub emit-requires-in-If : goal.emit-requires-in-If
emit-requires-in-If t c =
    let n = nodes_if c.args.s.now c.in-If.test c.in-If.yes c.in-If.no c.in-If.is in
    let ny = statement_nodes c.in-If.yes in
    let nn = statement_nodes c.in-If.no in
    room_less c.args.draft.now (8 * expression_nodes c.in-If.test) (8 * statement_nodes c.args.s.now) c.requires.room (omega arith)

pub size-requires : goal.size-requires
size-requires t c =
    let n = nodes_if c.args.s.now c.in-If.test c.in-If.yes c.in-If.no c.in-If.is in
    let ny = statement_nodes c.in-If.yes in
    let nn = statement_nodes c.in-If.no in
    let e = ap statement_nodes c.deref.ensures in
    omega (arith, c.requires.room.body)

pub overflow_add-size : goal.overflow_add-size
overflow_add-size t c =
    let n = nodes_if c.args.s.now c.in-If.test c.in-If.yes c.in-If.no c.in-If.is in
    let ny = statement_nodes c.in-If.yes in
    let nn = statement_nodes c.in-If.no in
    let e = ap statement_nodes c.deref.ensures in
    let w = (small c.args.around c.deref.result.now).size in
    let is = c.size.ensures in
    omega (arith, c.requires.room.body)

pub put_over-requires : goal.put_over-requires
put_over-requires t c =
    let n = nodes_if c.args.s.now c.in-If.test c.in-If.yes c.in-If.no c.in-If.is in
    let ny = statement_nodes c.in-If.yes in
    let nn = statement_nodes c.in-If.no in
    let room_b : HasRoom c.emit-in-If.new.draft (8 * (ny + nn) + 14) =
    room_first c.args.draft.now c.emit-in-If.new.draft c.in-If.test (8 * (ny + nn) + 14) (8 * statement_nodes c.args.s.now) c.requires.room (omega arith) c.in_ok-emit-in-If.ensures in
    let e = ap statement_nodes c.deref.ensures in
    let w = (small c.args.around c.deref.result.now).size in
    let is = c.size.ensures in
    omega (arith, room_b.body)

pub statement-requires-in-If : goal.statement-requires-in-If
statement-requires-in-If t c =
    let n = nodes_if c.args.s.now c.in-If.test c.in-If.yes c.in-If.no c.in-If.is in
    let ny = statement_nodes c.in-If.yes in
    let nn = statement_nodes c.in-If.no in
    let room_b : HasRoom c.emit-in-If.new.draft (8 * (ny + nn) + 14) =
    room_first c.args.draft.now c.emit-in-If.new.draft c.in-If.test (8 * (ny + nn) + 14) (8 * statement_nodes c.args.s.now) c.requires.room (omega arith) c.in_ok-emit-in-If.ensures in
    let room_c : HasRoom c.put_over.new.draft (8 * (ny + nn) + 13) =
    room_lines c.emit-in-If.new.draft c.put_over.new.draft _ 0 (8 * (ny + nn) + 13) (8 * (ny + nn) + 14) room_b (omega arith) c.in_ok-put_over-in-If.ensures in
    let ey = ap statement_nodes c.deref-in-If.ensures in
    (omega (arith, c.decreases), (c.in_ok-put_over-in-If.ensures.depth, (c.requires.kept, room_less c.put_over.new.draft (8 * statement_nodes c.deref-in-If.result.now) (8 * (ny + nn) + 13) room_c (omega arith))))

pub size-requires-in-If : goal.size-requires-in-If
size-requires-in-If t c =
    let n = nodes_if c.args.s.now c.in-If.test c.in-If.yes c.in-If.no c.in-If.is in
    let ny = statement_nodes c.in-If.yes in
    let nn = statement_nodes c.in-If.no in
    let e = ap statement_nodes c.deref-in-If-2.ensures in
    omega (arith, c.requires.room.body)

pub put_past-requires : goal.put_past-requires
put_past-requires t c =
    let n = nodes_if c.args.s.now c.in-If.test c.in-If.yes c.in-If.no c.in-If.is in
    let ny = statement_nodes c.in-If.yes in
    let nn = statement_nodes c.in-If.no in
    let room_b : HasRoom c.emit-in-If.new.draft (8 * (ny + nn) + 14) =
    room_first c.args.draft.now c.emit-in-If.new.draft c.in-If.test (8 * (ny + nn) + 14) (8 * statement_nodes c.args.s.now) c.requires.room (omega arith) c.in_ok-emit-in-If.ensures in
    let room_c : HasRoom c.put_over.new.draft (8 * (ny + nn) + 13) =
    room_lines c.emit-in-If.new.draft c.put_over.new.draft _ 0 (8 * (ny + nn) + 13) (8 * (ny + nn) + 14) room_b (omega arith) c.in_ok-put_over-in-If.ensures in
    let ey = ap statement_nodes c.deref-in-If.ensures in
    let wy = small c.args.around c.deref-in-If.result.now in
    let sy = wy.size in let fy = wy.formats in
    let room_d : HasRoom c.statement-in-If.new.draft (8 * nn + 13) =
    room_stretch c.put_over.new.draft c.statement-in-If.new.draft (stretch_of c.args.around c.deref-in-If.result.now) (exits_of c.args.around) (8 * nn + 13) (8 * (ny + nn) + 13) room_c
    (long c.args.around.spawns c.args.around.kept c.deref-in-If.result.now) (omega arith) (omega arith) c.in_ok-statement-in-If.ensures in
    let e = ap statement_nodes c.deref-in-If-2.ensures in
    let w = (small c.args.around c.deref-in-If-2.result.now).size in
    let is = c.size-in-If.ensures in
    omega (arith, room_d.body)

pub statement-requires-in-If-2 : goal.statement-requires-in-If-2
statement-requires-in-If-2 t c =
    let n = nodes_if c.args.s.now c.in-If.test c.in-If.yes c.in-If.no c.in-If.is in
    let ny = statement_nodes c.in-If.yes in
    let nn = statement_nodes c.in-If.no in
    let room_b : HasRoom c.emit-in-If.new.draft (8 * (ny + nn) + 14) =
    room_first c.args.draft.now c.emit-in-If.new.draft c.in-If.test (8 * (ny + nn) + 14) (8 * statement_nodes c.args.s.now) c.requires.room (omega arith) c.in_ok-emit-in-If.ensures in
    let room_c : HasRoom c.put_over.new.draft (8 * (ny + nn) + 13) =
    room_lines c.emit-in-If.new.draft c.put_over.new.draft _ 0 (8 * (ny + nn) + 13) (8 * (ny + nn) + 14) room_b (omega arith) c.in_ok-put_over-in-If.ensures in
    let ey = ap statement_nodes c.deref-in-If.ensures in
    let wy = small c.args.around c.deref-in-If.result.now in
    let sy = wy.size in let fy = wy.formats in
    let room_d : HasRoom c.statement-in-If.new.draft (8 * nn + 13) =
    room_stretch c.put_over.new.draft c.statement-in-If.new.draft (stretch_of c.args.around c.deref-in-If.result.now) (exits_of c.args.around) (8 * nn + 13) (8 * (ny + nn) + 13) room_c
    (long c.args.around.spawns c.args.around.kept c.deref-in-If.result.now) (omega arith) (omega arith) c.in_ok-statement-in-If.ensures in
    let room_e : HasRoom c.put_past.new.draft (8 * nn + 12) =
    room_lines c.statement-in-If.new.draft c.put_past.new.draft _ 0 (8 * nn + 12) (8 * nn + 13) room_d (omega arith) c.in_ok-put_past-in-If.ensures in
    let en = ap statement_nodes c.deref-in-If-3.ensures in
    (omega (arith, c.decreases), (c.in_ok-put_past-in-If.ensures.depth, (c.requires.kept, room_less c.put_past.new.draft (8 * statement_nodes c.deref-in-If-3.result.now) (8 * nn + 12) room_e (omega arith))))

pub returns-in_ok-put_past-in-If : goal.returns-in_ok-put_past-in-If
returns-in_ok-put_past-in-If t c =
    let x = c.deref-in-If.result.now in
    let y = c.deref-in-If-3.result.now in
    let is = c.in-If.is ∙ ap (λ z. code.If c.in-If.test z c.in-If.no) (sym c.deref-in-If.ensures) ∙ ap (code.If c.in-If.test x) (sym c.deref-in-If-3.ensures) ∙ if_form c.in-If.test x y in
    let over : c.size.result + 1 ≡ (stretch_of c.args.around x).size + 1 =
    ap (λ k. k + 1) (c.size.ensures ∙ ap (λ z. (stretch_of c.args.around z).size) (c.deref.ensures ∙ sym c.deref-in-If.ensures)) in
    let past = c.size-in-If.ensures ∙ ap (λ z. (stretch_of c.args.around z).size) (c.deref-in-If-2.ensures ∙ sym c.deref-in-If-3.ensures) in
    on_ok_weaker c.statement-in-If-2.result
    (λ p. subst (λ z. GainsStretch c.args.draft.now c.statement-in-If-2.new.draft (stretch_of c.args.around z) (exits_of c.args.around)) (sym is)
    (choosing_gained c.args.draft.now c.emit-in-If.new.draft c.put_over.new.draft c.statement-in-If.new.draft c.put_past.new.draft c.statement-in-If-2.new.draft (emitted c.in-If.test) (stretch_of c.args.around x) (stretch_of c.args.around y)
    (exits_of c.args.around) (c.size.result + 1) c.size-in-If.result (sized c.in-If.test) (long c.args.around.spawns c.args.around.kept x) (long c.args.around.spawns c.args.around.kept y) c.requires.start
    c.in_ok-emit-in-If.ensures over c.in_ok-put_over-in-If.ensures c.in_ok-statement-in-If.ensures past c.in_ok-put_past-in-If.ensures p))
    c.statement-in-If-2.ensures

pub emit-requires-in-Loop : goal.emit-requires-in-Loop
emit-requires-in-Loop t c =
    let n = nodes_loop c.args.s.now c.in-Loop.test c.in-Loop.step c.in-Loop.body c.in-Loop.is in
    let nt = expression_nodes c.in-Loop.test in
    let ns = statement_nodes c.in-Loop.step in
    let nx = statement_nodes c.in-Loop.body in
    let room_z : HasRoom c.put-in-Loop.new.self (8 * (nt + nx + ns) + 7) =
    room_lines c.args.draft.now c.put-in-Loop.new.self _ 0 (8 * (nt + nx + ns) + 7) (8 * statement_nodes c.args.s.now) c.requires.room (omega arith) c.in_ok-put-in-Loop.ensures in
    room_less c.put-in-Loop.new.self (8 * nt) (8 * (nt + nx + ns) + 7) room_z (omega arith)

pub place-requires : goal.place-requires
place-requires t c =
    let n = nodes_loop c.args.s.now c.in-Loop.test c.in-Loop.step c.in-Loop.body c.in-Loop.is in
    let nt = expression_nodes c.in-Loop.test in
    let ns = statement_nodes c.in-Loop.step in
    let nx = statement_nodes c.in-Loop.body in
    let room_z : HasRoom c.put-in-Loop.new.self (8 * (nt + nx + ns) + 7) =
    room_lines c.args.draft.now c.put-in-Loop.new.self _ 0 (8 * (nt + nx + ns) + 7) (8 * statement_nodes c.args.s.now) c.requires.room (omega arith) c.in_ok-put-in-Loop.ensures in
    let room_b : HasRoom c.emit-in-Loop.new.draft (8 * (nx + ns) + 13) =
    room_first c.put-in-Loop.new.self c.emit-in-Loop.new.draft c.in-Loop.test (8 * (nx + ns) + 13) (8 * (nt + nx + ns) + 7) room_z (omega arith) c.in_ok-emit-in-Loop.ensures in
    omega (arith, room_b.body)

pub overflow_add-continued : goal.overflow_add-continued
overflow_add-continued t c =
    let n = nodes_loop c.args.s.now c.in-Loop.test c.in-Loop.step c.in-Loop.body c.in-Loop.is in
    let nt = expression_nodes c.in-Loop.test in
    let ns = statement_nodes c.in-Loop.step in
    let nx = statement_nodes c.in-Loop.body in
    let room_z : HasRoom c.put-in-Loop.new.self (8 * (nt + nx + ns) + 7) =
    room_lines c.args.draft.now c.put-in-Loop.new.self _ 0 (8 * (nt + nx + ns) + 7) (8 * statement_nodes c.args.s.now) c.requires.room (omega arith) c.in_ok-put-in-Loop.ensures in
    let room_b : HasRoom c.emit-in-Loop.new.draft (8 * (nx + ns) + 13) =
    room_first c.put-in-Loop.new.self c.emit-in-Loop.new.draft c.in-Loop.test (8 * (nx + ns) + 13) (8 * (nt + nx + ns) + 7) room_z (omega arith) c.in_ok-emit-in-Loop.ensures in
    let at = c.place.ensures in
    omega (arith, room_b.body)

pub size-requires-in-Loop : goal.size-requires-in-Loop
size-requires-in-Loop t c =
    let n = nodes_loop c.args.s.now c.in-Loop.test c.in-Loop.step c.in-Loop.body c.in-Loop.is in
    let nt = expression_nodes c.in-Loop.test in
    let ns = statement_nodes c.in-Loop.step in
    let nx = statement_nodes c.in-Loop.body in
    let room_z : HasRoom c.put-in-Loop.new.self (8 * (nt + nx + ns) + 7) =
    room_lines c.args.draft.now c.put-in-Loop.new.self _ 0 (8 * (nt + nx + ns) + 7) (8 * statement_nodes c.args.s.now) c.requires.room (omega arith) c.in_ok-put-in-Loop.ensures in
    let room_b : HasRoom c.emit-in-Loop.new.draft (8 * (nx + ns) + 13) =
    room_first c.put-in-Loop.new.self c.emit-in-Loop.new.draft c.in-Loop.test (8 * (nx + ns) + 13) (8 * (nt + nx + ns) + 7) room_z (omega arith) c.in_ok-emit-in-Loop.ensures in
    let e = ap statement_nodes c.deref-in-Loop.ensures in
    omega (arith, room_b.body)

pub overflow_add-continued-in-Loop : goal.overflow_add-continued-in-Loop
overflow_add-continued-in-Loop t c =
    let n = nodes_loop c.args.s.now c.in-Loop.test c.in-Loop.step c.in-Loop.body c.in-Loop.is in
    let nt = expression_nodes c.in-Loop.test in
    let ns = statement_nodes c.in-Loop.step in
    let nx = statement_nodes c.in-Loop.body in
    let room_z : HasRoom c.put-in-Loop.new.self (8 * (nt + nx + ns) + 7) =
    room_lines c.args.draft.now c.put-in-Loop.new.self _ 0 (8 * (nt + nx + ns) + 7) (8 * statement_nodes c.args.s.now) c.requires.room (omega arith) c.in_ok-put-in-Loop.ensures in
    let room_b : HasRoom c.emit-in-Loop.new.draft (8 * (nx + ns) + 13) =
    room_first c.put-in-Loop.new.self c.emit-in-Loop.new.draft c.in-Loop.test (8 * (nx + ns) + 13) (8 * (nt + nx + ns) + 7) room_z (omega arith) c.in_ok-emit-in-Loop.ensures in
    let at = c.place.ensures in
    let ex = ap statement_nodes c.deref-in-Loop.ensures in
    let wx = (small c.args.around c.deref-in-Loop.result.now).size in
    let is_x = c.size-in-Loop.ensures in
    omega (arith, room_b.body)

pub size-requires-in-Loop-2 : goal.size-requires-in-Loop-2
size-requires-in-Loop-2 t c =
    let n = nodes_loop c.args.s.now c.in-Loop.test c.in-Loop.step c.in-Loop.body c.in-Loop.is in
    let nt = expression_nodes c.in-Loop.test in
    let ns = statement_nodes c.in-Loop.step in
    let nx = statement_nodes c.in-Loop.body in
    let room_z : HasRoom c.put-in-Loop.new.self (8 * (nt + nx + ns) + 7) =
    room_lines c.args.draft.now c.put-in-Loop.new.self _ 0 (8 * (nt + nx + ns) + 7) (8 * statement_nodes c.args.s.now) c.requires.room (omega arith) c.in_ok-put-in-Loop.ensures in
    let room_b : HasRoom c.emit-in-Loop.new.draft (8 * (nx + ns) + 13) =
    room_first c.put-in-Loop.new.self c.emit-in-Loop.new.draft c.in-Loop.test (8 * (nx + ns) + 13) (8 * (nt + nx + ns) + 7) room_z (omega arith) c.in_ok-emit-in-Loop.ensures in
    let e = ap statement_nodes c.deref-in-Loop-2.ensures in
    omega (arith, room_b.body)

pub overflow_add-broken : goal.overflow_add-broken
overflow_add-broken t c =
    let n = nodes_loop c.args.s.now c.in-Loop.test c.in-Loop.step c.in-Loop.body c.in-Loop.is in
    let nt = expression_nodes c.in-Loop.test in
    let ns = statement_nodes c.in-Loop.step in
    let nx = statement_nodes c.in-Loop.body in
    let room_z : HasRoom c.put-in-Loop.new.self (8 * (nt + nx + ns) + 7) =
    room_lines c.args.draft.now c.put-in-Loop.new.self _ 0 (8 * (nt + nx + ns) + 7) (8 * statement_nodes c.args.s.now) c.requires.room (omega arith) c.in_ok-put-in-Loop.ensures in
    let room_b : HasRoom c.emit-in-Loop.new.draft (8 * (nx + ns) + 13) =
    room_first c.put-in-Loop.new.self c.emit-in-Loop.new.draft c.in-Loop.test (8 * (nx + ns) + 13) (8 * (nt + nx + ns) + 7) room_z (omega arith) c.in_ok-emit-in-Loop.ensures in
    let at = c.place.ensures in
    let ex = ap statement_nodes c.deref-in-Loop.ensures in
    let wx = (small c.args.around c.deref-in-Loop.result.now).size in
    let is_x = c.size-in-Loop.ensures in
    let es = ap statement_nodes c.deref-in-Loop-2.ensures in
    let ws = (small c.args.around c.deref-in-Loop-2.result.now).size in
    let is_s = c.size-in-Loop-2.ensures in
    omega (arith, room_b.body)

pub overflow_add-broken-in-Loop : goal.overflow_add-broken-in-Loop
overflow_add-broken-in-Loop t c =
    let n = nodes_loop c.args.s.now c.in-Loop.test c.in-Loop.step c.in-Loop.body c.in-Loop.is in
    let nt = expression_nodes c.in-Loop.test in
    let ns = statement_nodes c.in-Loop.step in
    let nx = statement_nodes c.in-Loop.body in
    let room_z : HasRoom c.put-in-Loop.new.self (8 * (nt + nx + ns) + 7) =
    room_lines c.args.draft.now c.put-in-Loop.new.self _ 0 (8 * (nt + nx + ns) + 7) (8 * statement_nodes c.args.s.now) c.requires.room (omega arith) c.in_ok-put-in-Loop.ensures in
    let room_b : HasRoom c.emit-in-Loop.new.draft (8 * (nx + ns) + 13) =
    room_first c.put-in-Loop.new.self c.emit-in-Loop.new.draft c.in-Loop.test (8 * (nx + ns) + 13) (8 * (nt + nx + ns) + 7) room_z (omega arith) c.in_ok-emit-in-Loop.ensures in
    let at = c.place.ensures in
    let ex = ap statement_nodes c.deref-in-Loop.ensures in
    let wx = (small c.args.around c.deref-in-Loop.result.now).size in
    let is_x = c.size-in-Loop.ensures in
    let es = ap statement_nodes c.deref-in-Loop-2.ensures in
    let ws = (small c.args.around c.deref-in-Loop-2.result.now).size in
    let is_s = c.size-in-Loop-2.ensures in
    omega (arith, room_b.body)

pub statement-requires-in-Loop : goal.statement-requires-in-Loop
statement-requires-in-Loop t c =
    let n = nodes_loop c.args.s.now c.in-Loop.test c.in-Loop.step c.in-Loop.body c.in-Loop.is in
    let nt = expression_nodes c.in-Loop.test in
    let ns = statement_nodes c.in-Loop.step in
    let nx = statement_nodes c.in-Loop.body in
    let room_z : HasRoom c.put-in-Loop.new.self (8 * (nt + nx + ns) + 7) =
    room_lines c.args.draft.now c.put-in-Loop.new.self _ 0 (8 * (nt + nx + ns) + 7) (8 * statement_nodes c.args.s.now) c.requires.room (omega arith) c.in_ok-put-in-Loop.ensures in
    let room_b : HasRoom c.emit-in-Loop.new.draft (8 * (nx + ns) + 13) =
    room_first c.put-in-Loop.new.self c.emit-in-Loop.new.draft c.in-Loop.test (8 * (nx + ns) + 13) (8 * (nt + nx + ns) + 7) room_z (omega arith) c.in_ok-emit-in-Loop.ensures in
    let room_c : HasRoom c.put-in-Loop-2.new.self (8 * (nx + ns) + 12) =
    room_lines c.emit-in-Loop.new.draft c.put-in-Loop-2.new.self _ 0 (8 * (nx + ns) + 12) (8 * (nx + ns) + 13) room_b (omega arith) c.in_ok-put-in-Loop-2.ensures in
    let e3 = ap statement_nodes c.deref-in-Loop-3.ensures in
    (omega (arith, c.decreases), (c.in_ok-put-in-Loop-2.ensures.depth, (c.requires.kept, room_less c.put-in-Loop-2.new.self (8 * statement_nodes c.deref-in-Loop-3.result.now) (8 * (nx + ns) + 12) room_c (omega arith))))

pub statement-requires-in-Loop-2 : goal.statement-requires-in-Loop-2
statement-requires-in-Loop-2 t c =
    let n = nodes_loop c.args.s.now c.in-Loop.test c.in-Loop.step c.in-Loop.body c.in-Loop.is in
    let nt = expression_nodes c.in-Loop.test in
    let ns = statement_nodes c.in-Loop.step in
    let nx = statement_nodes c.in-Loop.body in
    let room_z : HasRoom c.put-in-Loop.new.self (8 * (nt + nx + ns) + 7) =
    room_lines c.args.draft.now c.put-in-Loop.new.self _ 0 (8 * (nt + nx + ns) + 7) (8 * statement_nodes c.args.s.now) c.requires.room (omega arith) c.in_ok-put-in-Loop.ensures in
    let room_b : HasRoom c.emit-in-Loop.new.draft (8 * (nx + ns) + 13) =
    room_first c.put-in-Loop.new.self c.emit-in-Loop.new.draft c.in-Loop.test (8 * (nx + ns) + 13) (8 * (nt + nx + ns) + 7) room_z (omega arith) c.in_ok-emit-in-Loop.ensures in
    let room_c : HasRoom c.put-in-Loop-2.new.self (8 * (nx + ns) + 12) =
    room_lines c.emit-in-Loop.new.draft c.put-in-Loop-2.new.self _ 0 (8 * (nx + ns) + 12) (8 * (nx + ns) + 13) room_b (omega arith) c.in_ok-put-in-Loop-2.ensures in
    let e3 = ap statement_nodes c.deref-in-Loop-3.ensures in
    let w3 = small c.args.around c.deref-in-Loop-3.result.now in
    let s3 = w3.size in let f3 = w3.formats in
    let room_d : HasRoom c.statement-in-Loop.new.draft (8 * ns + 12) =
    room_stretch c.put-in-Loop-2.new.self c.statement-in-Loop.new.draft (stretch_of c.args.around c.deref-in-Loop-3.result.now) _ (8 * ns + 12) (8 * (nx + ns) + 12) room_c
    (long c.args.around.spawns c.args.around.kept c.deref-in-Loop-3.result.now) (omega arith) (omega arith) c.in_ok-statement-in-Loop.ensures in
    let e4 = ap statement_nodes c.deref-in-Loop-4.ensures in
    (omega (arith, c.decreases), (c.in_ok-statement-in-Loop.ensures.depth, (c.requires.kept, room_less c.statement-in-Loop.new.draft (8 * statement_nodes c.deref-in-Loop-4.result.now) (8 * ns + 12) room_d (omega arith))))

pub returns-in_ok-statement-in-Loop-2 : goal.returns-in_ok-statement-in-Loop-2
returns-in_ok-statement-in-Loop-2 t c =
    let x = c.deref-in-Loop-3.result.now in
    let y = c.deref-in-Loop-4.result.now in
    let is = c.in-Loop.is ∙ ap (λ z. code.Loop c.in-Loop.test z c.in-Loop.body) (sym c.deref-in-Loop-4.ensures) ∙ ap (code.Loop c.in-Loop.test y) (sym c.deref-in-Loop-3.ensures) ∙ loop_form c.in-Loop.test y x in
    let sx = c.size-in-Loop.ensures ∙ ap (λ z. (stretch_of c.args.around z).size) (c.deref-in-Loop.ensures ∙ sym c.deref-in-Loop-3.ensures) in
    let sy = c.size-in-Loop-2.ensures ∙ ap (λ z. (stretch_of c.args.around z).size) (c.deref-in-Loop-2.ensures ∙ sym c.deref-in-Loop-4.ensures) in
    let at = c.place.ensures in
    let head = c.place-head.ensures in
    let over = (stretch_of c.args.around x).size + (stretch_of c.args.around y).size + 1 in
    let broken : c.place.result + 1 + c.size-in-Loop.result + c.size-in-Loop-2.result + 1 ≡ suc (length c.emit-in-Loop.new.draft.body + over) = omega arith in
    let test = subst (λ k. Gains c.emit-in-Loop.new.draft c.put-in-Loop-2.new.self (placeless (by.JumpZero k) ∷ []) [] 0 0) broken c.in_ok-put-in-Loop-2.ensures in
    on_ok_weaker c.put-in-Loop-3.result
    (λ p. subst (λ z. GainsStretch c.args.draft.now c.put-in-Loop-3.new.self (stretch_of c.args.around z) (exits_of c.args.around)) (sym is)
    (looping_gained c.args.draft.now c.put-in-Loop.new.self c.emit-in-Loop.new.draft c.put-in-Loop-2.new.self c.statement-in-Loop.new.draft c.statement-in-Loop-2.new.draft c.put-in-Loop-3.new.self (emitted c.in-Loop.test)
    (stretch_of c.args.around y) (stretch_of c.args.around x) (exits_of c.args.around)
    (record { broken = c.place.result + 1 + c.size-in-Loop.result + c.size-in-Loop-2.result + 1; continued = c.place.result + 1 + c.size-in-Loop.result }) over
    (sized c.in-Loop.test) (long c.args.around.spawns c.args.around.kept y) (long c.args.around.spawns c.args.around.kept x) c.in_ok-put-in-Loop.ensures c.in_ok-emit-in-Loop.ensures refl test
    (omega arith) (omega arith) c.in_ok-statement-in-Loop.ensures c.in_ok-statement-in-Loop-2.ensures
    (subst (λ k. Gains c.statement-in-Loop-2.new.draft c.put-in-Loop-3.new.self (placeless (by.Jump k) ∷ []) [] 0 0) head p)))
    c.put-in-Loop-3.ensures
