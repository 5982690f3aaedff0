-- How many words the front of a format has.
use Rattle.std.proofs.Common.{◌≡◌, ℕ, zero, suc, ◌+◌, ◌<◌, List, [], ◌∷◌, length, get_or, take, ap, arith}
use Rattle.word_ops.specs.declared.format.Part.{Part}
use Rattle.word_ops.specs.declared.format.Part.TheVariants.{Byte, Long}
use Rattle.word_ops.specs.Formats.{words_in}

-- One part more: how many words it has.
abbrev word_in : Part → ℕ
word_in part = words_in (part ∷ [])

in_front : (part : Part) (xs : List Part) → words_in (part ∷ xs) ≡ word_in part + words_in xs
in_front (Byte byte) xs = omega arith
in_front Long xs = omega arith

words_in_more : (xs : List Part) (i : ℕ) (d : Part) → i < length xs → words_in (take (suc i) xs) ≡ words_in (take i xs) + word_in (get_or xs i d)
words_in_more [] i d lt = absurd (omega arith)
words_in_more (x ∷ xs) zero d lt = omega (arith, in_front x [])
words_in_more (x ∷ xs) (suc i) d lt =
    let more = words_in_more xs i d (omega arith) in omega (arith, in_front x (take (suc i) xs), in_front x (take i xs))

one_more : (xs : List Part) (i : ℕ) → words_in (take (i + 1) xs) ≡ words_in (take (suc i) xs)
one_more xs i = let same : i + 1 ≡ suc i = omega arith in ap (λ k. words_in (take k xs)) same

pub words_in_byte : (xs : List Part) (i : ℕ) (d : Part) (byte : ℕ) → i < length xs → get_or xs i d ≡ Byte byte → words_in (take (i + 1) xs) ≡ words_in (take i xs)
words_in_byte xs i d byte lt e = omega (arith, one_more xs i, words_in_more xs i d lt, ap word_in e)

pub words_in_long : (xs : List Part) (i : ℕ) (d : Part) → i < length xs → get_or xs i d ≡ Long → words_in (take (i + 1) xs) ≡ words_in (take i xs) + 1
words_in_long xs i d lt e = omega (arith, one_more xs i, words_in_more xs i d lt, ap word_in e)
