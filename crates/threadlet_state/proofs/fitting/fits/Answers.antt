use Rattle.std.proofs.Common.{sym, ◌∙◌, ap, length}
use Rattle.threadlet_state.proofs.Deepest.{last_runs, no_frames}
use Rattle.threadlet_state.proofs.fitting.fits.Goals as goal

pub returns-in-Some : goal.returns-in-Some
returns-in-Some c =
    c.all_suit.ensures
    ∙ last_runs c.args.code.now.code c.args.context.now.frames c.in-Some.callers.now c.in-Some.deepest.now (sym c.as_slice.ensures ∙ c.in-Some.ensures.cases.0)

pub returns-in-None : goal.returns-in-None
returns-in-None c =
    no_frames c.args.code.now.code c.args.context.now.frames (ap length (sym c.as_slice.ensures) ∙ c.in-None.ensures.cases)
