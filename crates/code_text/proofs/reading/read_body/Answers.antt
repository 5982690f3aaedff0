use Rattle.std.proofs.Common.{ap, ◌∙◌}
use Rattle.code_text.specs.Decoding.{with_line, made_of, one_placed}
use Rattle.code_text.proofs.Many.{many_go_on}
use Rattle.code_text.proofs.reading.read_body.Goals as goal

pub loop-preserved : goal.loop-preserved
loop-preserved c =
    many_go_on one_placed with_line (made_of c.args.header c.loop.places c.loop.body) (made_of c.args.header c.add.new.self c.add-in-loop.new.self) c.args.header.length c.loop.counter c.loop.rest.now c.in_ok-pos.behind.now (c.in_ok-pos.pos, c.in_ok-pos.instr)
    c.loop-test.true c.in_ok-pos.ensures.ok
    (ap (λ ps. made_of c.args.header ps c.add-in-loop.new.self) c.in-Ok.ensures.ok ∙ ap (λ is. made_of c.args.header (with_line (made_of c.args.header c.loop.places c.loop.body) (c.in_ok-pos.pos, c.in_ok-pos.instr)).places is) c.in-Ok-add.ensures.ok)
    ∙ c.loop.invariant
