use Rattle.std.proofs.Common.{sym, arith}
use Rattle.std.specs.Char.{is_ascii_digit}
use Rattle.std.proofs.lemmas.List.Sums.{prefix_len_is}
use Rattle.journal_text.proofs.scanning.digits_len.Goals as goal

pub returns-else-is_ascii_digit : goal.returns-else-is_ascii_digit
returns-else-is_ascii_digit c =
    sym (prefix_len_is is_ascii_digit c.args.bytes.now c.loop-len.len 0 c.loop-len.invariant.0 c.loop-len.invariant.1 (λ _. grind (arith, c.if-is_ascii_digit.false, c.is_ascii_digit.ensures.value)))

pub returns-after-loop-len : goal.returns-after-loop-len
returns-after-loop-len c =
    sym (prefix_len_is is_ascii_digit c.args.bytes.now c.loop-len.len 0 c.loop-len.invariant.0 c.loop-len.invariant.1 (λ below. absurd (omega (arith, c.loop-len-test.false, below))))
