use Rattle.std.proofs.Common.{◌∙◌, sym}
use Rattle.std.proofs.lemmas.Option.{slice_get-get_or}
use Rattle.threadlet_code.specs.Breaches.{breaks}
use Rattle.threadlet_code.proofs.Among.{filter_first}
use Rattle.threadlet_code.proofs.judging.first_of.Goals as goal

pub returns-then-breaks_rule : goal.returns-then-breaks_rule
returns-then-breaks_rule c =
    filter_first (breaks c.args.code.now c.args.function c.args.f.now c.args.place) c.args.rules.now c.loop-rule.rule-index _
    (slice_get-get_or c.args.rules.now c.loop-rule.rule-index _ c.loop-rule-test.true) c.loop-rule.invariant
    (sym c.breaks_rule.ensures ∙ c.if-breaks_rule.true)
