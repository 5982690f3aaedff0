use Rattle.std.proofs.Common.{◌+◌, ap, ◌∙◌, arith, rules, SFits, w64}
use Rattle.std.specs.Prelude.{slice_set}
use Rattle.std.proofs.lemmas.Int.{to_z-of_z}
use Rattle.threadlet_state.specs.declared.frame.Frame.{Frame}
use Rattle.threadlet_state.specs.Activations.{activation}
use Rattle.threadlet_state.proofs.Stacks.{pushed}
use Rattle.threadlet_state.proofs.operand_stack.push.Goals as goal

pub returns-clause-pushed : goal.returns-clause-pushed
returns-clause-pushed c =
    let frame : Frame = c.args.frame.now in
    let slots = c.args.f.now.slots in
    let laid = c.requires.laid in
    let fits : SFits w64 c.args.word = search rules in
    ap (λ words. activation slots (record frame { words = words; top = frame.top + 1 })) c.set.ensures.new
    ∙ ap (λ w. activation slots (record frame { words = slice_set frame.words (slots + frame.top) w; top = frame.top + 1 })) (to_z-of_z w64 c.args.word fits)
    ∙ pushed slots frame c.args.word (omega (arith, laid.words, laid.top, c.requires.room))
