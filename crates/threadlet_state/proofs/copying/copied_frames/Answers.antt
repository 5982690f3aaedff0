use Rattle.std.proofs.Common.{length, take, drop, ap, arith, length-append}
use Rattle.std.proofs.lemmas.List.{length-take-le}
use Rattle.threadlet_state.proofs.copying.copied_frames.Goals as goal

pub put_copy-requires : goal.put_copy-requires
put_copy-requires c =
    let i = c.loop-i.i in
    let frames = c.args.frames.now in
    omega (arith, ap length c.loop-i.invariant, length-append (take i frames) (drop i c.shortened-copies.result), length-take-le i frames c.loop-i.auto.i-end)
