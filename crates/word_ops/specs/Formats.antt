-- Formats: what a print writes.
use Rattle.std.specs.Prelude.{ℕ, suc, ◌==◌, nat_le, Bool, true, ◌&&◌, ◌||◌, ℤ, List, [], ◌∷◌, ◌++◌}
use Rattle.std.specs.Fmt.{signed_decimal}
use Rattle.word_ops.specs.declared.format.Part.{Part}
use Rattle.word_ops.specs.declared.format.Part.TheVariants.{Byte, Long}

-- how many words a format prints
abbrev pub words_in : List Part → ℕ
words_in [] = 0
words_in (Byte byte ∷ parts) = words_in parts
words_in (Long ∷ parts) = suc (words_in parts)

-- a part is no byte other than newline and 0x20 to 0x7E
abbrev pub is_printable : Part → Bool
is_printable (Byte byte) = byte == 10 || (nat_le 32 byte && nat_le byte 126)
is_printable Long = true

-- the bytes that a format prints of words: its bytes as they stand, and the words in decimal in their order
abbrev pub printed : List Part → List ℤ → List ℕ
printed [] words = []
printed (Byte byte ∷ parts) words = byte ∷ printed parts words
printed (Long ∷ parts) [] = printed parts []
printed (Long ∷ parts) (word ∷ words) = signed_decimal word ++ printed parts words
