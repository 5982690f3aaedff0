-- Comparisons and the operators on bits, computed.
use Rattle.std.proofs.Common.{◌≡◌, ℤ, List, [], ◌∷◌, Option, Some, pos, negsuc, refl, map}
use Rattle.word_ops.specs.Operators.{binary_of, unary_of, least_word}
use Rattle.word_ops.specs.declared.operators.BinaryOp.{BinaryOp}
use Rattle.word_ops.specs.declared.operators.BinaryOp.TheVariants.{Sub, Shr, Lt, Le, Gt, Ge, Eq, Ne, And, Xor, Or}
use Rattle.word_ops.specs.declared.operators.UnaryOp.TheVariants.{Not}

abbrev comparisons : List BinaryOp
comparisons = Lt ∷ Le ∷ Gt ∷ Ge ∷ Eq ∷ Ne ∷ []

abbrev compared : ℤ → ℤ → List (Option ℤ)
compared x y = map (λ op. binary_of op x y) comparisons

abbrev yes : Option ℤ
yes = Some (pos 1)

abbrev no : Option ℤ
no = Some (pos 0)

the_less_with_the_greater : compared (negsuc 1) (pos 1) ≡ yes ∷ yes ∷ no ∷ no ∷ no ∷ yes ∷ []
the_less_with_the_greater = refl

the_greater_with_the_less : compared (pos 1) (negsuc 1) ≡ no ∷ no ∷ yes ∷ yes ∷ no ∷ yes ∷ []
the_greater_with_the_less = refl

a_word_with_itself : compared (negsuc 4) (negsuc 4) ≡ no ∷ yes ∷ no ∷ yes ∷ yes ∷ no ∷ []
a_word_with_itself = refl

two_words_below_0 : compared (negsuc 4) (negsuc 5) ≡ no ∷ no ∷ yes ∷ yes ∷ no ∷ yes ∷ []
two_words_below_0 = refl

the_first_is_less_by_the_second : binary_of Sub (pos 2) (pos 5) ≡ Some (negsuc 2)
the_first_is_less_by_the_second = refl

a_difference_wraps : binary_of Sub least_word (pos 1) ≡ Some (pos 9223372036854775807)
a_difference_wraps = refl

bits_of_12_and_10 : map (λ op. binary_of op (pos 12) (pos 10)) (And ∷ Xor ∷ Or ∷ []) ≡ Some (pos 8) ∷ Some (pos 6) ∷ Some (pos 14) ∷ []
bits_of_12_and_10 = refl

the_sign_is_a_bit : map (λ op. binary_of op (negsuc 0) (pos 10)) (And ∷ Xor ∷ Or ∷ []) ≡ Some (pos 10) ∷ Some (negsuc 10) ∷ Some (negsuc 0) ∷ []
the_sign_is_a_bit = refl

a_right_shift_count_is_taken_modulo_64 : map (λ y. binary_of Shr (negsuc 7) y) (pos 65 ∷ pos 33 ∷ negsuc 0 ∷ []) ≡ Some (negsuc 3) ∷ Some (negsuc 0) ∷ Some (negsuc 0) ∷ []
a_right_shift_count_is_taken_modulo_64 = refl

not_of_0_is_1 : unary_of Not (pos 0) ≡ pos 1
not_of_0_is_1 = refl
