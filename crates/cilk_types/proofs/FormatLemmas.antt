-- A format is read byte by byte.
use Rattle.std.proofs.Common.{◌≡◌, ap, ℕ, ◌+◌, ◌==◌, Bool, true, false, if◌then◌else◌, arith, List, ◌∷◌, Option, Some, None, refl}
use Rattle.std.specs.Option.{option_map}
use Rattle.word_ops.specs.Formats.{words_in}
use Rattle.word_ops.specs.declared.format.Part.{Part}
use Rattle.word_ops.specs.declared.format.Part.TheVariants.{Byte, Long}
use Rattle.cilk_model.specs.Formats as model
use Rattle.cilk_model.specs.Formats.{is_plain, escaped, part_before, parts_from}
use Rattle.cilk_types.specs.declared.formats.Begun.{Begun}
use Rattle.cilk_types.specs.declared.formats.Begun.TheVariants as begun
use Rattle.cilk_types.specs.declared.formats.Seen.TheVariants as seen
use Rattle.cilk_types.specs.Reading.{begun_of, whole, read_of, behind_read}

whole_part : (part : Option Part) (bytes : List ℕ) → part_before part (parts_from model.nothing bytes) ≡ behind_read (whole part) bytes
whole_part None bytes = refl
whole_part (Some part) bytes = refl

plain_step : (p q : Bool) (part : Option Part) (bytes : List ℕ) →
    (if p then parts_from model.backslash bytes
    else (if q then parts_from model.percent bytes else part_before part (parts_from model.nothing bytes)))
    ≡ behind_read (if p then seen.Begun begun.Backslash else (if q then seen.Begun begun.Percent else whole part)) bytes
plain_step true q part bytes = refl
plain_step false true part bytes = refl
plain_step false false part bytes = whole_part part bytes

percent_step : (p : Bool) (part : Option Part) (bytes : List ℕ) →
    (if p then parts_from model.percent_l bytes else part_before part (parts_from model.nothing bytes))
    ≡ behind_read (if p then seen.Begun begun.PercentL else whole part) bytes
percent_step true part bytes = refl
percent_step false part bytes = whole_part part bytes

pub read_step : (b : Begun) (byte : ℕ) (bytes : List ℕ) → parts_from (begun_of b) (byte ∷ bytes) ≡ behind_read (read_of b byte) bytes
read_step begun.Nothing byte bytes = plain_step (byte == 92) (byte == 37) _ bytes
read_step begun.Backslash byte bytes = whole_part (escaped byte) bytes
read_step begun.Percent byte bytes = percent_step (byte == 108) _ bytes
read_step begun.PercentL byte bytes = whole_part _ bytes

-- how many words there are, behind some
abbrev pub more_words : ℕ → Option (List Part) → Option ℕ
more_words n parts = option_map (λ ps. n + words_in ps) parts

-- a part more
abbrev pub words_with : ℕ → Part → ℕ
words_with n (Byte byte) = n
words_with n Long = n + 1

pub words_step : (n : ℕ) (part : Part) (parts : Option (List Part)) →
    more_words n (option_map (λ rest. part ∷ rest) parts) ≡ more_words (words_with n part) parts
words_step n part None = refl
words_step n (Byte byte) (Some ps) = refl
words_step n Long (Some ps) = ap (λ k. Some k) (omega arith)
