use Rattle.std.proofs.Common.{◌-◌, ap, sym, ◌∙◌, arith, rules, SFits, w64}
use Rattle.std.proofs.lemmas.Int.{to_z-of_z}
use Rattle.threadlet_code.specs.Machine as machine
use Rattle.threadlet_state.specs.declared.frame.Frame.{Frame}
use Rattle.threadlet_state.specs.Activations.{activation}
use Rattle.threadlet_state.proofs.Stacks.{popped}
use Rattle.threadlet_state.proofs.operand_stack.pop.Goals as goal

pub returns-clause-popped : goal.returns-clause-popped
returns-clause-popped c =
    let frame : Frame = c.args.frame.now in
    let slots = c.args.f.now.slots in
    let word = c.at.result.now in
    let fits : SFits w64 word = search rules in
    popped slots frame (frame.top - 1) word (omega (arith, c.requires.some)) c.at.ensures
    ∙ ap (λ w. machine.push w (activation slots (record frame { top = frame.top - 1 }))) (sym (to_z-of_z w64 word fits))
