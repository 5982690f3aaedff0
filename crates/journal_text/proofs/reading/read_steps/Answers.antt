use Rattle.std.proofs.Common.{◌+◌, Err, ap, sym, ◌∙◌}
use Rattle.journal_text.specs.Decoding.{broken}
use Rattle.journal_text.specs.declared.fault.JournalKind.TheVariants as kind
use Rattle.journal_text.proofs.Steps.{steps_stop, steps_go_on}
use Rattle.journal_text.proofs.reading.read_steps.Goals as goal

pub returns-in_default-clause-fault : goal.returns-in_default-clause-fault
returns-in_default-clause-fault c =
    sym c.loop.invariant ∙ steps_stop c.args.n c.args.line c.loop.steps c.args.count c.loop.counter c.loop.rest.now c.loop-test.true c.in_default.ensures
    ∙ ap (λ k. Err (broken (c.args.line + k) kind.BadStep)) (sym c.len.ensures)

pub loop-preserved : goal.loop-preserved
loop-preserved c =
    steps_go_on c.args.n c.args.line c.loop.steps c.add.new.self c.args.count c.loop.counter c.loop.rest.now c.in-Some.behind.now c.in-Some.step c.loop-test.true c.in-Some.ensures c.in-Ok.ensures.ok
    ∙ c.loop.invariant
