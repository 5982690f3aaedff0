use Rattle.std.proofs.Common.{◌++◌, ◌∙◌, ap, arith}
use Rattle.word_ops.specs.Ending.{line}
use Rattle.code_text.proofs.Bodies.{line_more, body_all}
use Rattle.code_text.proofs.writing.push_body.Goals as goal

pub loop-i-preserved : goal.loop-i-preserved
loop-i-preserved c =
    line_more c.args.f.now.places c.args.f.now.body c.loop-i.i c.at.result.now c.at-in-loop-i.result.now c.push_line.new.out c.loop-i.out c.args.out.now
    c.at.ensures c.at-in-loop-i.ensures c.loop-i.invariant (c.in_ok-push_line.ensures ∙ ap (λ t. c.loop-i.out ++ line t) (c.as_slice.ensures ∙ c.in_ok-text.ensures))

pub returns : goal.returns
returns c =
    c.loop-i.invariant ∙ ap (λ t. c.args.out.now ++ t) (body_all c.args.f.now.places c.args.f.now.body c.loop-i.i
    (omega (arith, c.loop-i-test.false, c.loop-i.auto.i-end, c.min-i-end.ensures, c.len.ensures, c.len-2.ensures)))
