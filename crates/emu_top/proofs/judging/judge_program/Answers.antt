use Rattle.std.proofs.lemmas.Result.{IfOk-weaker}
use Rattle.emu_top.proofs.JudgeLemmas.{printed_judged, emitted_judged, run_judged}
use Rattle.emu_top.proofs.judging.judge_program.Goals as goal

pub returns-in-Check : goal.returns-in-Check
returns-in-Check c = λ text spells. IfOk-weaker _ _ _
    (λ verdict is. printed_judged c.args.asked.now text c.args.spelled.now.tree c.args.spelled.now.program verdict c.in-Check.is spells c.requires.program is)
    c.printed.ensures

pub returns-in-Emit : goal.returns-in-Emit
returns-in-Emit c = λ text spells. IfOk-weaker _ _ _
    (λ verdict is. emitted_judged c.args.asked.now text c.args.spelled.now.tree c.args.spelled.now.program verdict c.in-Emit.is spells c.requires.program is)
    c.emitted.ensures

pub returns-in_default : goal.returns-in_default
returns-in_default c = λ text spells. IfOk-weaker _ _ _
    (λ verdict is. run_judged c.args.asked.now text c.args.spelled.now.tree c.args.spelled.now.program verdict c.requires.built c.requires.read c.in_default.not-Check c.in_default.not-Emit spells c.requires.program is)
    c.run.ensures
