use Rattle.std.proofs.Common.{◌≡◌, ◌≤◌, ◌<◌, ◌∷◌, ap, sym, ◌∙◌, arith, length, refl, Some, get_or}
use Rattle.std.specs.Prelude.{slice_get, nat_lt, ◌==◌, if◌then◌else◌}
use Rattle.std.proofs.lemmas.Option.{slice_get-get_or}
use Rattle.word_ops.specs.declared.ending.TrapKind.TheVariants as trap
use Rattle.world_model.specs.Action as act
use Rattle.threadlet_code.specs.declared.instr.Instr.TheVariants as by
use Rattle.threadlet_code.specs.declared.code.FuncCode.{FuncCode}
use Rattle.threadlet_code.specs.Operands.{own_operands}
use Rattle.threadlet_code.specs.Machine.{State, goes, stops, entered, place_in}
use Rattle.threadlet_state.specs.Activations.{activation}
use Rattle.threadlet_state.specs.Silent.{goes_on}
use Rattle.threadlet_state.proofs.FrameLaws.{stack_size}
use Rattle.threadlet_state.proofs.Going.{goes_alone, goes_back, goes_deeper, own_is}
use Rattle.threadlet_state.proofs.Here.{deepest, function_there, place_there, callee_there, next_is, step_is, call_is, args, left, enough, laid, under, depth_is, not_too_deep}
use Rattle.threadlet_state.proofs.Stepped.{stays_put}
use Rattle.threadlet_state.proofs.silence.are_silent.Goals as goal

pub at-f-requires : goal.at-f-requires
at-f-requires c =
    let d = deepest c.args.code.now c.requires.sound c.args.frames.now c.requires.fits c.len-depth.result c.len-depth.ensures c.at-frame.result.now c.at-frame.ensures in
    function_there d

pub at-requires : goal.at-requires
at-requires c =
    let d = deepest c.args.code.now c.requires.sound c.args.frames.now c.requires.fits c.len-depth.result c.len-depth.ensures c.at-frame.result.now c.at-frame.ensures in
    place_there d c.at-f.result.now c.at-f.ensures

pub has_value-requires : goal.has_value-requires
has_value-requires c =
    let d = deepest c.args.code.now c.requires.sound c.args.frames.now c.requires.fits c.len-depth.result c.len-depth.ensures c.at-frame.result.now c.at-frame.ensures in
    let f = c.at-f.result.now in
    record {
      laid = laid d f c.at-f.ensures;
      two = enough d f c.at-f.ensures (by.Bin c.in-Bin.op) (c.at.ensures ∙ ap Some c.in-Bin.is) 2 refl;
    }

pub returns-in-Call : goal.returns-in-Call
returns-in-Call c =
    let d = deepest c.args.code.now c.requires.sound c.args.frames.now c.requires.fits c.len-depth.result c.len-depth.ensures c.at-frame.result.now c.at-frame.ensures in
    let code = c.args.code.now in
    let frame = c.at-frame.result.now in
    let f = c.at-f.result.now in
    let n = c.len-depth.result in
    let g = c.in-Call.field-0 in
    let at_instr : slice_get f.body frame.at ≡ Some (by.Call g) = c.at.ensures ∙ ap Some c.in-Call.is in
    let there : g < length code.functions = callee_there d f c.at-f.ensures g (next_is d f c.at-f.ensures (by.Call g) at_instr) in
    let h : FuncCode = get_or code.functions g f in
    let known_h : slice_get code.functions g ≡ Some h = slice_get-get_or code.functions g f there in
    let trapped = act.Trap (place_in f frame.at) trap.Depth in
    let next : State = entered g h (args d f c.at-f.ensures g at_instr h known_h) ∷ activation f.slots (left d f c.at-f.ensures g at_instr h known_h) ∷ under d in
    goes_deeper n trapped next (omega (arith, c.len-depth.ensures, depth_is d, not_too_deep d))
    ∙ ap (λ k. goes_on (if k == 256 then stops trapped else goes next)) (c.len-depth.ensures ∙ depth_is d)
    ∙ sym (ap goes_on (call_is d f c.at-f.ensures g at_instr h known_h))

pub returns-in-Return : goal.returns-in-Return
returns-in-Return c =
    let d = deepest c.args.code.now c.requires.sound c.args.frames.now c.requires.fits c.len-depth.result c.len-depth.ensures c.at-frame.result.now c.at-frame.ensures in
    let code = c.args.code.now in
    let frame = c.at-frame.result.now in
    let f = c.at-f.result.now in
    let at_instr : slice_get f.body frame.at ≡ Some by.Return = c.at.ensures ∙ ap Some c.in-Return.is in
    let some : 1 ≤ length (activation f.slots frame).stack =
    omega (arith, stack_size f frame (laid d f c.at-f.ensures), enough d f c.at-f.ensures by.Return at_instr 1 refl) in
    ap (nat_lt 1) (c.len-depth.ensures ∙ depth_is d)
    ∙ sym (goes_back code (place_in f frame.at) (activation f.slots frame) (under d) some)
    ∙ sym (ap goes_on (step_is d f c.at-f.ensures by.Return at_instr))

pub returns-in-Bin : goal.returns-in-Bin
returns-in-Bin c =
    let d = deepest c.args.code.now c.requires.sound c.args.frames.now c.requires.fits c.len-depth.result c.len-depth.ensures c.at-frame.result.now c.at-frame.ensures in
    let code = c.args.code.now in
    let frame = c.at-frame.result.now in
    let f = c.at-f.result.now in
    c.has_value.ensures code (place_in f frame.at) (under d)
    ∙ sym (ap goes_on (step_is d f c.at-f.ensures (by.Bin c.in-Bin.op) (c.at.ensures ∙ ap Some c.in-Bin.is)))

pub returns-in_default : goal.returns-in_default
returns-in_default c =
    let d = deepest c.args.code.now c.requires.sound c.args.frames.now c.requires.fits c.len-depth.result c.len-depth.ensures c.at-frame.result.now c.at-frame.ensures in
    let code = c.args.code.now in
    let frame = c.at-frame.result.now in
    let f = c.at-f.result.now in
    let instr = c.at.result.now in
    let put = stays_put instr c.in_default.not-Call c.in_default.not-Return in
    let size = stack_size f frame (laid d f c.at-f.ensures) in
    c.concerns_its_frame.ensures
    ∙ goes_alone code (place_in f frame.at) (activation f.slots frame) (under d) instr put c.in_default.not-Bin
    (λ s. omega (arith, size, enough d f c.at-f.ensures instr c.at.ensures (own_operands instr) (own_is code instr s)))
    ∙ sym (ap goes_on (step_is d f c.at-f.ensures instr c.at.ensures))
