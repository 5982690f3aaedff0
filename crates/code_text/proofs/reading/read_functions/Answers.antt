use Rattle.std.proofs.Common.{◌≡◌, [], Err, ◌∙◌}
use Rattle.code_text.specs.Decoding.{IfAt, many_in, pushed, one_function}
use Rattle.code_text.proofs.Many.{many_go_on, many_err, handed_on}
use Rattle.code_text.proofs.reading.read_functions.Goals as goal

pub returns-in_err-function-clause-at : goal.returns-in_err-function-clause-at
returns-in_err-function-clause-at c =
    let whole = many_in one_function pushed [] c.args.count c.args.bytes.now in
    handed_on (λ s. IfAt s (λ stop. whole ≡ Err stop)) c.from_residual.result c.in_err-function.field-0.0 c.from_residual.ensures.1
    (many_err one_function pushed c.loop.functions c.args.count c.loop.counter c.loop.rest.now whole c.in_err-function.field-0.0 c.loop-test.true c.loop.invariant c.in_err-function.ensures.at)

pub loop-preserved : goal.loop-preserved
loop-preserved c =
    many_go_on one_function pushed c.loop.functions c.add.new.self c.args.count c.loop.counter c.loop.rest.now c.in_ok-function.behind.now c.in_ok-function.function c.loop-test.true c.in_ok-function.ensures.ok c.in-Ok.ensures.ok
    ∙ c.loop.invariant
