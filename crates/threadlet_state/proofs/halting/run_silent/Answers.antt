use Rattle.std.proofs.Common.{◌+◌, arith}
use Rattle.threadlet_state.proofs.Halted.{one_more_done, fewer_left, done_small}
use Rattle.threadlet_state.proofs.halting.run_silent.Goals as goal

pub overflow_add-done : goal.overflow_add-done
overflow_add-done c =
    let code = c.args.code.now in
    let way = one_more_done code.code code.sound c.args.context.now.frames c.loop-context.context.frames c.step_silent.new.context.frames c.loop-context.done c.loop-context.invariant.0 c.in_ok-step_silent.ensures.ok in
    omega (arith, done_small code.code code.sound code.short c.args.context.now.frames c.step_silent.new.context.frames (c.loop-context.done + 1) way c.requires.fits)

pub loop-context-smaller : goal.loop-context-smaller
loop-context-smaller c =
    let code = c.args.code.now in
    fewer_left code.code code.sound c.loop-context.context.frames c.step_silent.new.context.frames c.in_ok-step_silent.ensures.ok

pub loop-context-preserved : goal.loop-context-preserved
loop-context-preserved c =
    let code = c.args.code.now in (
      one_more_done code.code code.sound c.args.context.now.frames c.loop-context.context.frames c.step_silent.new.context.frames c.loop-context.done c.loop-context.invariant.0 c.in_ok-step_silent.ensures.ok,
      grind arith,
    )

pub returns-clause-few : goal.returns-clause-few
returns-clause-few c =
    let code = c.args.code.now in
    omega (arith, done_small code.code code.sound code.short c.args.context.now.frames c.loop-context.context.frames c.loop-context.done c.loop-context.invariant.0 c.requires.fits)
