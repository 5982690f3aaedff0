use Rattle.std.proofs.Common.{◌≡◌, ◌+◌, ◌-◌, ◌≤◌, ap, ◌∙◌, subst, arith, rules, Some, None, SFits, to_z, of_z, w64}
use Rattle.std.specs.Prelude.{slice_get, MatchResult}
use Rattle.std.proofs.lemmas.Int.{to_z-of_z}
use Rattle.word_ops.specs.Operators.{binary_of}
use Rattle.threadlet_state.specs.declared.frame.Frame.{Frame}
use Rattle.threadlet_state.specs.Activations.{activation}
use Rattle.threadlet_state.proofs.Stacks.{popped}
use Rattle.threadlet_state.proofs.Going.{goes_with_value}
use Rattle.threadlet_state.proofs.silence.has_value.Goals as goal

pub returns : goal.returns
returns c code at callers =
    let frame : Frame = c.args.frame.now in
    let slots = c.args.f.now.slots in
    let top = frame.top in
    let two : 2 ≤ top = c.requires.two in
    let left = c.at.result.now in
    let right = c.at-2.result.now in
    let left_fits : SFits w64 left = search rules in
    let right_fits : SFits w64 right = search rules in
    let at_left : slots + (top - 2) ≡ slots + top - 2 = omega (arith, two) in
    let at_right : slots + (top - 1) ≡ slots + top - 1 = omega (arith, two) in
    let once : Frame = record frame { top = top - 1 } in
    let twice : Frame = record frame { top = top - 2 } in
    let value =
    subst (λ w. MatchResult c.binary.result (λ z. binary_of c.args.op w right ≡ Some z) (λ e. binary_of c.args.op w right ≡ None)) (to_z-of_z w64 left left_fits)
    (subst (λ w. MatchResult c.binary.result (λ z. binary_of c.args.op (to_z w64 (of_z w64 left)) w ≡ Some z) (λ e. binary_of c.args.op (to_z w64 (of_z w64 left)) w ≡ None)) (to_z-of_z w64 right right_fits) c.binary.ensures) in
    c.is_ok.ensures.value
    ∙ goes_with_value c.args.op left right c.binary.result (activation slots frame) (activation slots once) (activation slots twice)
    (popped slots frame (top - 1) right (omega (arith, two)) (ap (slice_get frame.words) at_right ∙ c.at-2.ensures))
    (popped slots once (top - 2) left (omega (arith, two)) (ap (slice_get frame.words) at_left ∙ c.at.ensures))
    value code at callers
