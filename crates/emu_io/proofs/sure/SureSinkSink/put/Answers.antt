use Rattle.std.proofs.Common.{◌≤◌, length, arith}
use Rattle.std.proofs.lemmas.Grind.{common_steps}
use Rattle.emu_io.proofs.TakeLemmas.{take-append_room}
use Rattle.emu_io.proofs.sure.SureSinkSink.put.Goals as goal

pub returns-clause-state : goal.returns-clause-state
returns-clause-state c =
    let fits : length c.self.inside.bytes.items ≤ c.self.inside.room = omega arith in
    let cut = take-append_room c.self.inside.bytes.items c.args.piece.now c.self.inside.room fits in
    rw (← c.self.view_is) (grind (arith, common_steps, cut))
