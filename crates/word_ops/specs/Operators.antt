-- The operators on words: whole numbers from -2^63 to 2^63 - 1.
use Rattle.std.specs.Prelude.{ℕ, ◌%◌, Bool, true, false, if◌then◌else◌, ◌==◌, ◌&&◌, ◌||◌, not, Option, Some, None, ℤ, pos, negsuc, int_lt, int_le, int_div, int_rem}
use Rattle.std.specs.Int.{w64, int_wrapping_add, int_wrapping_sub, int_wrapping_mul, int_wrapping_neg, int_bit_and, int_bit_or, int_bit_xor, int_bit_not, int_shl, int_shr, cast_unsigned}
use Rattle.word_ops.specs.declared.operators.BinaryOp.{BinaryOp}
use Rattle.word_ops.specs.declared.operators.BinaryOp.TheVariants.{Add, Sub, Mul, Div, Rem, Shl, Shr, Lt, Le, Gt, Ge, Eq, Ne, And, Xor, Or}
use Rattle.word_ops.specs.declared.operators.UnaryOp.{UnaryOp}
use Rattle.word_ops.specs.declared.operators.UnaryOp.TheVariants.{Neg, Not, Flip}

-- the least word, -2^63
abbrev pub least_word : ℤ
least_word = negsuc 9223372036854775807

-- the word that stands for a truth
abbrev pub truth_of : Bool → ℤ
truth_of true = pos 1
truth_of false = pos 0

-- two whole numbers are the same
abbrev pub same_word : ℤ → ℤ → Bool
same_word (pos m) (pos n) = m == n
same_word (pos m) (negsuc n) = false
same_word (negsuc m) (pos n) = false
same_word (negsuc m) (negsuc n) = m == n

-- there is no quotient of x by y: y is 0, or the quotient would be 2^63
abbrev pub cannot_divide : ℤ → ℤ → Bool
cannot_divide x y = same_word y (pos 0) || (same_word x least_word && same_word y (negsuc 0))

-- how far a shift by y goes
abbrev pub shift_count : ℤ → ℕ
shift_count y = cast_unsigned w64 y % 64

-- what a comparison tells of two words
abbrev pub compares : BinaryOp → ℤ → ℤ → Bool
compares Lt x y = int_lt x y
compares Le x y = int_le x y
compares Gt x y = int_lt y x
compares Ge x y = int_le y x
compares Eq x y = same_word x y
compares Ne x y = not (same_word x y)
compares _ x y = false

-- the word that an operator which is no division makes of two words
abbrev pub word_of_two : BinaryOp → ℤ → ℤ → ℤ
word_of_two Add x y = int_wrapping_add w64 x y
word_of_two Sub x y = int_wrapping_sub w64 x y
word_of_two Mul x y = int_wrapping_mul w64 x y
word_of_two Shl x y = int_shl w64 x (shift_count y)
word_of_two Shr x y = int_shr x (shift_count y)
word_of_two And x y = int_bit_and w64 x y
word_of_two Xor x y = int_bit_xor w64 x y
word_of_two Or x y = int_bit_or w64 x y
word_of_two comparison x y = truth_of (compares comparison x y)

-- the word that an operator makes of two words, or none where a division has no quotient
abbrev pub binary_of : BinaryOp → ℤ → ℤ → Option ℤ
binary_of Div x y = if cannot_divide x y then None else Some (int_div x y)
binary_of Rem x y = if cannot_divide x y then None else Some (int_rem x y)
binary_of other x y = Some (word_of_two other x y)

-- the word that an operator makes of one word
abbrev pub unary_of : UnaryOp → ℤ → ℤ
unary_of Neg x = int_wrapping_neg w64 x
unary_of Not x = truth_of (same_word x (pos 0))
unary_of Flip x = int_bit_not w64 x
