use Rattle.std.proofs.Common.{arith}
use Rattle.std.proofs.lemmas.Int.Digits.{digits_value_more}
use Rattle.word_ops.proofs.Digits.{digit_at, digit_value_at, value_small}
use Rattle.word_ops.proofs.text.decimal_value.Goals as goal

pub overflow_mul-value : goal.overflow_mul-value
overflow_mul-value c = omega (arith, c.loop-digit.invariant, value_small c.args.text.now c.loop-digit.digit-index c.requires.digits c.requires.short)

pub overflow_sub-digit : goal.overflow_sub-digit
overflow_sub-digit c = omega (arith, digit_at c.args.text.now c.loop-digit.digit-index c.requires.digits c.loop-digit-test.true)

pub overflow_add-value : goal.overflow_add-value
overflow_add-value c =
    omega (arith, c.loop-digit.invariant, c.type_inv.text c.loop-digit.digit-index, value_small c.args.text.now c.loop-digit.digit-index c.requires.digits c.requires.short)

pub loop-digit-preserved : goal.loop-digit-preserved
loop-digit-preserved c =
    omega (arith, c.loop-digit.invariant, digits_value_more 10 c.args.text.now c.loop-digit.digit-index c.loop-digit-test.true, digit_value_at c.args.text.now c.loop-digit.digit-index c.requires.digits c.loop-digit-test.true)
