use Rattle.std.proofs.Common.{◌+◌, Some, take, ap, sym, ◌∙◌, arith}
use Rattle.std.proofs.lemmas.Grind.{common_steps}
use Rattle.code_text.proofs.Cuts.{cut_at, cut_none, to_end}
use Rattle.code_text.proofs.words.cut.Goals as goal

pub returns-then-bytes-len : goal.returns-then-bytes-len
returns-then-bytes-len c =
    cut_at c.args.byte c.args.bytes.now c.loop-len.len c.loop-len-test.true c.loop-len.invariant.1 (grind (arith, common_steps, c.if-bytes-len.true))
    ∙ ap (λ t. Some (take c.loop-len.len c.args.bytes.now, t)) (sym (to_end (c.loop-len.len + 1) c.args.bytes.now))

pub returns : goal.returns
returns c = cut_none c.args.byte c.args.bytes.now (λ j less. c.loop-len.invariant.1 j (omega (arith, c.loop-len-test.false, less)))
