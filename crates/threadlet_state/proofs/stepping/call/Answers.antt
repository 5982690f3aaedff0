use Rattle.std.proofs.Common.{◌≡◌, ◌-◌, ◌+◌, ◌≤◌, ◌<◌, ◌++◌, ◌∷◌, [], sym, ap, ◌∙◌, subst, arith, length, Some, take, drop}
use Rattle.std.specs.Prelude.{reverse, slice_get, slice_set, option_map, ◌^◌}
use Rattle.std.specs.List.{slice_range}
use Rattle.std.proofs.lemmas.List.{length-take-le, length-drop}
use Rattle.threadlet_code.specs.declared.instr.Instr.TheVariants as by
use Rattle.threadlet_code.specs.declared.code.FuncCode.{FuncCode}
use Rattle.threadlet_code.specs.Machine.{entered}
use Rattle.threadlet_state.specs.declared.frame.Frame.{Frame}
use Rattle.threadlet_state.proofs.Here.{deepest, same_under, one_more, params_fit, function_there, instr_there, callee_there, next_there, enough, laid, size_is}
use Rattle.threadlet_state.proofs.Stepped.{stepped_call}
use Rattle.threadlet_state.proofs.stepping.call.Goals as goal

pub at-f-requires : goal.at-f-requires
at-f-requires c =
    let d = deepest c.args.code.now c.requires.sound c.args.frames.now c.requires.silent.fits c.len-deepest.result c.len-deepest.ensures c.at-caller.result.now c.at-caller.ensures in
    function_there d

pub at-callee-requires : goal.at-callee-requires
at-callee-requires c =
    let d = deepest c.args.code.now c.requires.sound c.args.frames.now c.requires.silent.fits c.len-deepest.result c.len-deepest.ensures c.at-caller.result.now c.at-caller.ensures in
    callee_there d c.at-f.result.now c.at-f.ensures c.args.function c.requires.here

pub overflow_sub-args : goal.overflow_sub-args
overflow_sub-args c =
    let d = deepest c.args.code.now c.requires.sound c.args.frames.now c.requires.silent.fits c.len-deepest.result c.len-deepest.ensures c.at-caller.result.now c.at-caller.ensures in
    let frame = c.at-caller.result.now in
    let f = c.at-f.result.now in
    let h = c.at-callee.result.now in
    let at_instr : slice_get f.body frame.at ≡ Some (by.Call c.args.function) = instr_there d f c.at-f.ensures (by.Call c.args.function) c.requires.here in
    let some : h.params ≤ frame.top = enough d f c.at-f.ensures (by.Call c.args.function) at_instr h.params (ap (option_map (λ (k : FuncCode). k.params)) c.at-callee.ensures) in
    omega (arith, some)

pub slice_bounds-args-end : goal.slice_bounds-args-end
slice_bounds-args-end c =
    let d = deepest c.args.code.now c.requires.sound c.args.frames.now c.requires.silent.fits c.len-deepest.result c.len-deepest.ensures c.at-caller.result.now c.at-caller.ensures in
    let well = laid d c.at-f.result.now c.at-f.ensures in
    omega (arith, well.words, well.top, ap length c.as_slice.ensures)

pub entered-requires : goal.entered-requires
entered-requires c =
    let d = deepest c.args.code.now c.requires.sound c.args.frames.now c.requires.silent.fits c.len-deepest.result c.len-deepest.ensures c.at-caller.result.now c.at-caller.ensures in
    let frame = c.at-caller.result.now in
    let f = c.at-f.result.now in
    let h = c.at-callee.result.now in
    let at_instr : slice_get f.body frame.at ≡ Some (by.Call c.args.function) = instr_there d f c.at-f.ensures (by.Call c.args.function) c.requires.here in
    let some : h.params ≤ frame.top = enough d f c.at-f.ensures (by.Call c.args.function) at_instr h.params (ap (option_map (λ (k : FuncCode). k.params)) c.at-callee.ensures) in
    let well = laid d c.at-f.result.now c.at-f.ensures in
    let end = f.slots + frame.top in
    let size = length-take-le (end - (end - h.params)) (drop (end - h.params) c.as_slice.result.now) (omega (arith, some, well.words, well.top, ap length c.as_slice.ensures, length-drop (end - h.params) c.as_slice.result.now)) in
    omega (arith, size, some, params_fit c.args.code.now c.requires.sound c.args.function h c.at-callee.ensures)

pub leave_behind-requires-clause-operands : goal.leave_behind-requires-clause-operands
leave_behind-requires-clause-operands c =
    let d = deepest c.args.code.now c.requires.sound c.args.frames.now c.requires.silent.fits c.len-deepest.result c.len-deepest.ensures c.at-caller.result.now c.at-caller.ensures in
    let frame = c.at-caller.result.now in
    let f = c.at-f.result.now in
    let h = c.at-callee.result.now in
    let at_instr : slice_get f.body frame.at ≡ Some (by.Call c.args.function) = instr_there d f c.at-f.ensures (by.Call c.args.function) c.requires.here in
    let some : h.params ≤ frame.top = enough d f c.at-f.ensures (by.Call c.args.function) at_instr h.params (ap (option_map (λ (k : FuncCode). k.params)) c.at-callee.ensures) in
    let lent = c.at_mut.result.now in
    let again = same_under c.args.frames.now c.add.new.self (c.len-deepest.result - 1) c.at-caller.result.now lent c.in_ok-next.next c.at-caller.ensures c.in_ok-add.ensures.ok c.at_mut.ensures.item in
    subst (λ (x : Frame). h.params ≤ x.top) again some

pub leave_behind-requires-clause-next_place : goal.leave_behind-requires-clause-next_place
leave_behind-requires-clause-next_place c =
    let d = deepest c.args.code.now c.requires.sound c.args.frames.now c.requires.silent.fits c.len-deepest.result c.len-deepest.ensures c.at-caller.result.now c.at-caller.ensures in
    let lent = c.at_mut.result.now in
    let again = same_under c.args.frames.now c.add.new.self (c.len-deepest.result - 1) c.at-caller.result.now lent c.in_ok-next.next c.at-caller.ensures c.in_ok-add.ensures.ok c.at_mut.ensures.item in
    subst (λ (x : Frame). x.at + 1 < 2 ^ 32) again (next_there d c.at-f.result.now c.at-f.ensures c.requires.short)

pub returns-clause-ok : goal.returns-clause-ok
returns-clause-ok c =
    let d = deepest c.args.code.now c.requires.sound c.args.frames.now c.requires.silent.fits c.len-deepest.result c.len-deepest.ensures c.at-caller.result.now c.at-caller.ensures in
    let frame = c.at-caller.result.now in
    let f = c.at-f.result.now in
    let h = c.at-callee.result.now in
    let at_instr : slice_get f.body frame.at ≡ Some (by.Call c.args.function) = instr_there d f c.at-f.ensures (by.Call c.args.function) c.requires.here in
    let some : h.params ≤ frame.top = enough d f c.at-f.ensures (by.Call c.args.function) at_instr h.params (ap (option_map (λ (k : FuncCode). k.params)) c.at-callee.ensures) in
    let lent = c.at_mut.result.now in
    let again = same_under c.args.frames.now c.add.new.self (c.len-deepest.result - 1) c.at-caller.result.now lent c.in_ok-next.next c.at-caller.ensures c.in_ok-add.ensures.ok c.at_mut.ensures.item in
    let before = c.args.frames.now in
    let n = c.len-deepest.result in
    let next = c.in_ok-next.next in
    let behind = c.leave_behind.new.frame in
    let after = slice_set c.add.new.self (n - 1) behind in
    let rest : Frame = record frame { top = frame.top - h.params; at = frame.at + 1 } in
    let is_left : behind ≡ rest = c.leave_behind.ensures ∙ ap (λ (x : Frame). record x { top = x.top - h.params; at = x.at + 1 }) (sym again) in
    let becomes : reverse after ≡ next ∷ rest ∷ reverse (take (n - 1) before) =
    ap (λ l. reverse (slice_set l (n - 1) behind)) c.in_ok-add.ensures.ok
    ∙ ap (λ x. reverse (slice_set (before ++ next ∷ []) (n - 1) x)) is_left
    ∙ one_more before (n - 1) rest next (size_is d n c.len-deepest.ensures) in
    let new = c.in_ok-next.ensures.entered ∙ ap (λ words. entered c.args.function h (slice_range words (f.slots + frame.top - h.params) (f.slots + frame.top))) c.as_slice.ensures in
    stepped_call d c.requires.silent.silent f c.at-f.ensures c.args.function at_instr h c.at-callee.ensures after next becomes new c.in_ok-next.ensures.laid
