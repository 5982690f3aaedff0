use Rattle.std.proofs.Common.{◌∙◌}
use Rattle.code_text.specs.Decoding.{pushed, one_format}
use Rattle.code_text.proofs.Many.{many_go_on}
use Rattle.code_text.proofs.reading.read_formats.Goals as goal

pub loop-preserved : goal.loop-preserved
loop-preserved c =
    many_go_on one_format pushed c.loop.formats c.add.new.self c.args.count c.loop.counter c.loop.rest.now c.in_ok-format.behind.now c.in_ok-format.format c.loop-test.true c.in_ok-format.ensures.ok c.in-Ok.ensures.ok
    ∙ c.loop.invariant
