use Rattle.std.proofs.Common.{◌<◌, ◌∙◌, ◌++◌, ◌∷◌, [], length, take, ap, sym, arith}
use Rattle.codegen_stmt.specs.Whole.{function_code, functions_code, body_code}
use Rattle.codegen_stmt.proofs.Counting.{count_within, slots_bound, next_room, next_codes, next_formats}
use Rattle.codegen_stmt.proofs.programs.write.Goals as goal

pub overflow_cast-i : goal.overflow_cast-i
overflow_cast-i c = omega (arith, c.len-i-end.ensures, count_within c.args.program.now.functions)

pub function-requires-clause-slots : goal.function-requires-clause-slots
function-requires-clause-slots c = slots_bound c.args.program.now c.loop-i.i c.at.result.now c.at.ensures

pub function-requires-clause-room : goal.function-requires-clause-room
function-requires-clause-room c =
    let lt : c.loop-i.i < length c.args.program.now.functions = omega (arith, c.len-i-end.ensures) in
    omega (arith, ap length c.loop-i.invariant.1, next_room c.args.program.now.functions c.loop-i.i c.at.result.now lt c.at.ensures)

pub loop-i-preserved : goal.loop-i-preserved
loop-i-preserved c =
    let fs = c.args.program.now.functions in
    let lt : c.loop-i.i < length fs = omega (arith, c.len-i-end.ensures) in
    let before = functions_code (take c.loop-i.i fs) 0 in
    let f = c.at.result.now in (
      c.in_ok-add.ensures.ok ∙ ap (λ l. l ++ c.in_ok-written.written.code ∷ []) c.loop-i.invariant.0 ∙ ap (λ x. before ++ x ∷ []) (c.in_ok-written.ensures.code ∙ ap (λ l. function_code f (length l)) c.loop-i.invariant.1)
          ∙ sym (next_codes fs c.loop-i.i f lt c.at.ensures),
      c.in_ok-written.ensures.formats ∙ ap (λ l. l ++ (body_code f).formats) c.loop-i.invariant.1 ∙ sym (next_formats fs c.loop-i.i f lt c.at.ensures),
    )
