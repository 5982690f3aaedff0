use Rattle.std.proofs.Common.{◌≡◌, ◌≤◌, ◌<◌, ◌+◌, ◌*◌, ℕ, length, take, get_or, arith, sym, ◌∙◌, refl, List}
use Rattle.std.specs.Str.Parse.{digits_value}
use Rattle.std.specs.Char.{digit_value}
use Rattle.std.proofs.lemmas.Bool.{lt-leb, cond-false}
use Rattle.std.proofs.lemmas.Int.Digits.{digits_value_more}
use Rattle.std.proofs.lemmas.Str.Parse.{digits_value-take-le}
use Rattle.cilk_model.specs.Literals.{max_literal}
use Rattle.cilk_lexer.proofs.literals.number.Goals as goal

-- the value of one digit more
with_digit : (radix value digit : ℕ) (digits : List ℕ) (i : ℕ) → i < length digits → value ≡ digits_value radix (take i digits) →
    digit ≡ digit_value (get_or digits i 0) → value * radix + digit ≡ digits_value radix (take (i + 1) digits)
with_digit radix value digit digits i below e d = rw (digits_value_more radix digits i below, e, d) refl

pub returns-then-value-from-clause-value : goal.returns-then-value-from-clause-value
returns-then-value-from-clause-value c =
    let digits = c.args.digits.now in
    let i = c.loop-digit.digit-index in
    let value = with_digit c.args.radix c.loop-digit.value c.from.result digits i c.loop-digit-test.true c.loop-digit.invariant.0 (c.from.ensures ∙ c.digit_value.ensures.value) in
    let least : digits_value c.args.radix (take (i + 1) digits) ≤ digits_value c.args.radix digits = digits_value-take-le c.args.radix digits (i + 1) c.requires.0 in
    sym (cond-false _ _ _ (lt-leb (digits_value c.args.radix digits) max_literal (omega (arith, value, least, c.if-value-from.true, c.from-in-loop-digit.ensures))))

pub loop-digit-preserved : goal.loop-digit-preserved
loop-digit-preserved c = (
  with_digit c.args.radix c.loop-digit.value c.from.result c.args.digits.now c.loop-digit.digit-index c.loop-digit-test.true c.loop-digit.invariant.0 (c.from.ensures ∙ c.digit_value.ensures.value),
  omega (arith, c.if-value-from.false, c.from-in-loop-digit.ensures),
)
