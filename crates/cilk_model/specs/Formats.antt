-- What the bytes of a text literal mean as a format.
use Rattle.std.specs.Prelude.{ℕ, ◌==◌, nat_le, Bool, ◌&&◌, not, ◌||◌, if◌then◌else◌, List, [], ◌∷◌, Option, Some, None}
use Rattle.std.specs.Option.{option_map}
use Rattle.word_ops.specs.declared.format.Part.{Part}
use Rattle.word_ops.specs.declared.format.Part.TheVariants.{Byte, Long}

-- What has been read of a part: nothing, a backslash, `%`, or `%l`.
pub data Begun : Type 0 where
  nothing : Begun
  backslash : Begun
  percent : Begun
  percent_l : Begun

-- A byte that stands for itself: 0x20 to 0x7E but `\`, `"` and `%`.
abbrev pub is_plain : ℕ → Bool
is_plain b = nat_le 32 b && nat_le b 126 && not (b == 92 || b == 34 || b == 37)

-- What a byte behind a backslash means: newline behind `\n`, and `\` and `"` themselves.
abbrev pub escaped : ℕ → Option Part
escaped b = if b == 110 then Some (Byte 10) else (if b == 92 || b == 34 then Some (Byte b) else None)

-- A part before others, where both are there.
abbrev pub part_before : Option Part → Option (List Part) → Option (List Part)
part_before None parts = None
part_before (Some part) parts = option_map (λ rest. part ∷ rest) parts

-- The parts that bytes mean behind the beginning of one. `%%` is `%`, and `%ld` a word.
abbrev pub parts_from : Begun → List ℕ → Option (List Part)
parts_from nothing [] = Some []
parts_from begun [] = None
parts_from nothing (b ∷ bytes) =
    if b == 92 then parts_from backslash bytes
    else (if b == 37 then parts_from percent bytes else part_before (if is_plain b then Some (Byte b) else None) (parts_from nothing bytes))
parts_from backslash (b ∷ bytes) = part_before (escaped b) (parts_from nothing bytes)
parts_from percent (b ∷ bytes) =
    if b == 108 then parts_from percent_l bytes else part_before (if b == 37 then Some (Byte 37) else None) (parts_from nothing bytes)
parts_from percent_l (b ∷ bytes) = part_before (if b == 100 then Some Long else None) (parts_from nothing bytes)

-- The format that the bytes between two quotes mean, if they mean one.
abbrev pub format_of : List ℕ → Option (List Part)
format_of bytes = parts_from nothing bytes
