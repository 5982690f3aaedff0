use Rattle.std.proofs.Common.{◌∙◌, ap, sym}
use Rattle.threadlet_code.proofs.SpanRules.{underflow_found, differs_found, too_high_found}
use Rattle.threadlet_code.specs.Breaches.{breaks}
use Rattle.threadlet_code.proofs.judging.breaks_rule.Goals as goal

pub returns-in-Underflow : goal.returns-in-Underflow
returns-in-Underflow c =
    let r = c.requires in
    c.underflows.ensures
    ∙ underflow_found c.args.code.now c.args.function c.args.f.now c.args.survey.now.ways r.ways c.args.place c.at-in-Underflow.result.now r.place c.at-in-Underflow.ensures c.at.result.now c.at.ensures
    ∙ ap (breaks c.args.code.now c.args.function c.args.f.now c.args.place) (sym c.in-Underflow.is)

pub returns-in-HeightDiffers : goal.returns-in-HeightDiffers
returns-in-HeightDiffers c =
    let r = c.requires in
    c.differs.ensures
    ∙ differs_found c.args.code.now c.args.function c.args.f.now c.args.survey.now.ways r.ways c.args.place c.at-in-HeightDiffers.result.now r.place c.at-in-HeightDiffers.ensures
    ∙ ap (breaks c.args.code.now c.args.function c.args.f.now c.args.place) (sym c.in-HeightDiffers.is)

pub returns-in-TooHigh : goal.returns-in-TooHigh
returns-in-TooHigh c =
    let r = c.requires in
    c.rises_over.ensures
    ∙ too_high_found c.args.code.now c.args.function c.args.f.now c.args.survey.now.ways r.ways c.args.place c.at-in-TooHigh.result.now r.place c.at-in-TooHigh.ensures
    ∙ ap (breaks c.args.code.now c.args.function c.args.f.now c.args.place) (sym c.in-TooHigh.is)
