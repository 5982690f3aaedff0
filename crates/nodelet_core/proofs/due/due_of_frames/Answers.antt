use Rattle.std.proofs.Common.{◌≡◌, suc, ◌<◌, ◌∷◌, ap, sym, ◌∙◌, arith, length, refl, Some, None, get_or}
use Rattle.std.specs.Prelude.{slice_get, option_map, option_and_then, if◌then◌else◌, is_some}
use Rattle.std.proofs.lemmas.Option.{slice_get-get_or, get_or_from_slice_get}
use Rattle.word_ops.specs.Operators.{binary_of}
use Rattle.word_ops.specs.declared.ending.TrapKind.TheVariants as trap
use Rattle.world_model.specs.Activation.{word_at}
use Rattle.threadlet_code.specs.declared.instr.Instr.TheVariants as by
use Rattle.threadlet_code.specs.declared.code.FuncCode.{FuncCode}
use Rattle.threadlet_code.specs.Naming.{function_named}
use Rattle.threadlet_code.specs.Machine.{State, entered, place_in, action_of}
use Rattle.threadlet_code.proofs.FitLaws.{never_stuck}
use Rattle.threadlet_code.proofs.Kept.{keeps_rules}
use Rattle.threadlet_state.specs.Activations.{activation, state_of}
use Rattle.threadlet_state.proofs.Here.{deepest, fits, function_there, place_there, callee_there, next_is, step_is, call_is, args, left, enough, laid, under, depth_is, not_too_deep}
use Rattle.nodelet_core.specs.declared.due.Due.TheVariants as due
use Rattle.nodelet_core.specs.code.Dues.{due_of}
use Rattle.nodelet_core.proofs.Asking.{due_in, plain_asks, operator_asks, print_asks, return_asks, return_goes, no_format, call_traps, call_goes}
use Rattle.nodelet_core.proofs.due.due_of_frames.Goals as goal

pub at-f-requires : goal.at-f-requires
at-f-requires c =
    let d = deepest c.args.code.now c.requires.sound c.args.frames.now c.requires.fits c.len-depth.result c.len-depth.ensures c.at-frame.result.now c.at-frame.ensures in
    function_there d

pub at-pos-requires : goal.at-pos-requires
at-pos-requires c =
    let d = deepest c.args.code.now c.requires.sound c.args.frames.now c.requires.fits c.len-depth.result c.len-depth.ensures c.at-frame.result.now c.at-frame.ensures in
    let f = c.at-f.result.now in
    omega (arith, place_there d f c.at-f.ensures, (keeps_rules c.args.code.now c.requires.sound c.at-frame.result.now.function f c.at-f.ensures).positions)

pub at-requires : goal.at-requires
at-requires c =
    let d = deepest c.args.code.now c.requires.sound c.args.frames.now c.requires.fits c.len-depth.result c.len-depth.ensures c.at-frame.result.now c.at-frame.ensures in
    place_there d c.at-f.result.now c.at-f.ensures

pub top_words-requires : goal.top_words-requires
top_words-requires c =
    let d = deepest c.args.code.now c.requires.sound c.args.frames.now c.requires.fits c.len-depth.result c.len-depth.ensures c.at-frame.result.now c.at-frame.ensures in
    let f = c.at-f.result.now in
    record { laid = laid d f c.at-f.ensures; enough = enough d f c.at-f.ensures by.Return (c.at.ensures ∙ ap Some c.in-Return.is) 1 refl }

pub top_words-requires-in-Bin : goal.top_words-requires-in-Bin
top_words-requires-in-Bin c =
    let d = deepest c.args.code.now c.requires.sound c.args.frames.now c.requires.fits c.len-depth.result c.len-depth.ensures c.at-frame.result.now c.at-frame.ensures in
    let f = c.at-f.result.now in
    record { laid = laid d f c.at-f.ensures; enough = enough d f c.at-f.ensures (by.Bin c.in-Bin.op) (c.at.ensures ∙ ap Some c.in-Bin.is) 2 refl }

pub returns-then-depth-lt-MAX_DEPTH : goal.returns-then-depth-lt-MAX_DEPTH
returns-then-depth-lt-MAX_DEPTH c =
    let d = deepest c.args.code.now c.requires.sound c.args.frames.now c.requires.fits c.len-depth.result c.len-depth.ensures c.at-frame.result.now c.at-frame.ensures in
    let code = c.args.code.now in
    let frame = c.at-frame.result.now in
    let f = c.at-f.result.now in
    let g = c.in-Call.field-0 in
    let at_instr : slice_get f.body frame.at ≡ Some (by.Call g) = c.at.ensures ∙ ap Some c.in-Call.is in
    let there : g < length code.functions = callee_there d f c.at-f.ensures g (next_is d f c.at-f.ensures (by.Call g) at_instr) in
    let h : FuncCode = get_or code.functions g f in
    let known_h : slice_get code.functions g ≡ Some h = slice_get-get_or code.functions g f there in
    let next : State = entered g h (args d f c.at-f.ensures g at_instr h known_h) ∷ activation f.slots (left d f c.at-f.ensures g at_instr h known_h) ∷ under d in
    call_goes (suc (length (under d))) (place_in f frame.at) next (omega (arith, c.len-depth.ensures, depth_is d, c.if-depth-lt-MAX_DEPTH.true))
    ∙ sym (ap due_in (call_is d f c.at-f.ensures g at_instr h known_h))

pub returns-else-depth-lt-MAX_DEPTH : goal.returns-else-depth-lt-MAX_DEPTH
returns-else-depth-lt-MAX_DEPTH c =
    let d = deepest c.args.code.now c.requires.sound c.args.frames.now c.requires.fits c.len-depth.result c.len-depth.ensures c.at-frame.result.now c.at-frame.ensures in
    let code = c.args.code.now in
    let frame = c.at-frame.result.now in
    let f = c.at-f.result.now in
    let place : place_in f frame.at ≡ c.at-pos.result.now = get_or_from_slice_get f.places frame.at c.at-pos.result.now _ c.at-pos.ensures in
    let g = c.in-Call.field-0 in
    let at_instr : slice_get f.body frame.at ≡ Some (by.Call g) = c.at.ensures ∙ ap Some c.in-Call.is in
    let there : g < length code.functions = callee_there d f c.at-f.ensures g (next_is d f c.at-f.ensures (by.Call g) at_instr) in
    let h : FuncCode = get_or code.functions g f in
    let known_h : slice_get code.functions g ≡ Some h = slice_get-get_or code.functions g f there in
    let next : State = entered g h (args d f c.at-f.ensures g at_instr h known_h) ∷ activation f.slots (left d f c.at-f.ensures g at_instr h known_h) ∷ under d in
    ap (λ p. Some (due.Trap p trap.Depth)) (sym place)
    ∙ call_traps (suc (length (under d))) (place_in f frame.at) next (omega (arith, c.len-depth.ensures, depth_is d, not_too_deep d, c.if-depth-lt-MAX_DEPTH.false))
    ∙ sym (ap due_in (call_is d f c.at-f.ensures g at_instr h known_h))

pub returns-then-depth-gt1 : goal.returns-then-depth-gt1
returns-then-depth-gt1 c =
    let d = deepest c.args.code.now c.requires.sound c.args.frames.now c.requires.fits c.len-depth.result c.len-depth.ensures c.at-frame.result.now c.at-frame.ensures in
    let code = c.args.code.now in
    let frame = c.at-frame.result.now in
    let f = c.at-f.result.now in
    return_goes code (place_in f frame.at) (activation f.slots frame) (under d) (omega (arith, c.len-depth.ensures, depth_is d, c.if-depth-gt1.true))
    ∙ sym (ap due_in (step_is d f c.at-f.ensures by.Return (c.at.ensures ∙ ap Some c.in-Return.is)))

pub returns-else-depth-gt1 : goal.returns-else-depth-gt1
returns-else-depth-gt1 c =
    let d = deepest c.args.code.now c.requires.sound c.args.frames.now c.requires.fits c.len-depth.result c.len-depth.ensures c.at-frame.result.now c.at-frame.ensures in
    let code = c.args.code.now in
    let frame = c.at-frame.result.now in
    let f = c.at-f.result.now in
    ap Some c.ended.ensures
    ∙ return_asks code (place_in f frame.at) (activation f.slots frame) (under d) c.top_words.result.now _ c.top_words.ensures.took (omega (arith, c.len-depth.ensures, depth_is d, c.if-depth-gt1.false))
    ∙ sym (ap due_in (step_is d f c.at-f.ensures by.Return (c.at.ensures ∙ ap Some c.in-Return.is)))

pub returns-in-Bin : goal.returns-in-Bin
returns-in-Bin c =
    let d = deepest c.args.code.now c.requires.sound c.args.frames.now c.requires.fits c.len-depth.result c.len-depth.ensures c.at-frame.result.now c.at-frame.ensures in
    let code = c.args.code.now in
    let frame = c.at-frame.result.now in
    let f = c.at-f.result.now in
    let place : place_in f frame.at ≡ c.at-pos.result.now = get_or_from_slice_get f.places frame.at c.at-pos.result.now _ c.at-pos.ensures in
    let words = c.top_words-in-Bin.result.now in
    c.undivided.ensures
    ∙ ap (λ p. if is_some (binary_of c.in-Bin.op (word_at words 0) (word_at words 1)) then None else Some (due.Trap p trap.Divide)) (sym place)
    ∙ sym (operator_asks code (place_in f frame.at) (activation f.slots frame) (under d) c.in-Bin.op words _ c.top_words-in-Bin.ensures.took)
    ∙ sym (ap due_in (step_is d f c.at-f.ensures (by.Bin c.in-Bin.op) (c.at.ensures ∙ ap Some c.in-Bin.is)))

pub returns-in-Print : goal.returns-in-Print
returns-in-Print c =
    let d = deepest c.args.code.now c.requires.sound c.args.frames.now c.requires.fits c.len-depth.result c.len-depth.ensures c.at-frame.result.now c.at-frame.ensures in
    let code = c.args.code.now in
    let frame = c.at-frame.result.now in
    let f = c.at-f.result.now in
    let i = c.in-Print.field-0 in
    let is = step_is d f c.at-f.ensures (by.Print i) (c.at.ensures ∙ ap Some c.in-Print.is) in
    print_asks code (place_in f frame.at) (activation f.slots frame) (under d) i (λ e. never_stuck code c.requires.sound (state_of code c.args.frames.now) (fits d).0 (is ∙ e))
    ∙ sym (ap due_in is)

pub operand_count-requires : goal.operand_count-requires
operand_count-requires c =
    let d = deepest c.args.code.now c.requires.sound c.args.frames.now c.requires.fits c.len-depth.result c.len-depth.ensures c.at-frame.result.now c.at-frame.ensures in
    let code = c.args.code.now in
    let frame = c.at-frame.result.now in
    let f = c.at-f.result.now in
    record {
      function = λ g e. (keeps_rules code c.requires.sound frame.function f c.at-f.ensures).functions frame.at g (ap (option_and_then function_named) c.at.ensures ∙ e);
      format = λ i e. absurd (let wrong : None ≡ Some i = sym (no_format c.at.result.now c.in_default.not-Print) ∙ e in cc);
    }

pub top_words-requires-in_default : goal.top_words-requires-in_default
top_words-requires-in_default c =
    let d = deepest c.args.code.now c.requires.sound c.args.frames.now c.requires.fits c.len-depth.result c.len-depth.ensures c.at-frame.result.now c.at-frame.ensures in
    let code = c.args.code.now in
    let frame = c.at-frame.result.now in
    let f = c.at-f.result.now in
    record { laid = laid d f c.at-f.ensures; enough = enough d f c.at-f.ensures c.at.result.now c.at.ensures c.operand_count.result c.operand_count.ensures }

pub returns-in_default : goal.returns-in_default
returns-in_default c =
    let d = deepest c.args.code.now c.requires.sound c.args.frames.now c.requires.fits c.len-depth.result c.len-depth.ensures c.at-frame.result.now c.at-frame.ensures in
    let code = c.args.code.now in
    let frame = c.at-frame.result.now in
    let f = c.at-f.result.now in
    let place : place_in f frame.at ≡ c.at-pos.result.now = get_or_from_slice_get f.places frame.at c.at-pos.result.now _ c.at-pos.ensures in
    let instr = c.at.result.now in
    let words = c.top_words-in_default.result.now in
    c.due_on.ensures code (suc (length (under d)))
    ∙ ap (λ p. option_map due_of (action_of code p (suc (length (under d))) instr words)) (sym place)
    ∙ sym (ap (option_map due_of) (plain_asks code (place_in f frame.at) (activation f.slots frame) (under d) instr c.in_default.not-Bin c.in_default.not-Call c.in_default.not-Return
    c.operand_count.result words _ c.operand_count.ensures c.top_words-in_default.ensures.took))
    ∙ sym (ap due_in (step_is d f c.at-f.ensures instr c.at.ensures))
