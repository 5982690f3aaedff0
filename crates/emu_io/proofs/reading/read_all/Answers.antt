use Rattle.emu_io.proofs.LeftLemmas.{Consumes-append}
use Rattle.emu_io.proofs.reading.read_all.Goals as goal

pub returns-then-count-limit-clause-given : goal.returns-then-count-limit-clause-given
returns-then-count-limit-clause-given g c =
    (_, Consumes-append _ _ _ _ _ c.loop.invariant.given c.in-Ok.ensures.given)

pub returns-then-is_err-clause-given : goal.returns-then-is_err-clause-given
returns-then-is_err-clause-given g c =
    (_, Consumes-append _ _ _ _ _ c.loop.invariant.given c.in-Ok.ensures.given)
