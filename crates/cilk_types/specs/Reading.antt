-- How a format is read, byte by byte.
use Rattle.std.specs.Prelude.{ℕ, ◌==◌, if◌then◌else◌, List, ◌∷◌, Option, Some, None}
use Rattle.std.specs.Option.{option_map}
use Rattle.word_ops.specs.declared.format.Part.{Part}
use Rattle.word_ops.specs.declared.format.Part.TheVariants.{Byte, Long}
use Rattle.cilk_model.specs.Formats as model
use Rattle.cilk_model.specs.Formats.{is_plain, escaped, part_before, parts_from}
use Rattle.cilk_types.specs.declared.formats.Begun.{Begun}
use Rattle.cilk_types.specs.declared.formats.Begun.TheVariants as begun
use Rattle.cilk_types.specs.declared.formats.Seen.{Seen}
use Rattle.cilk_types.specs.declared.formats.Seen.TheVariants as seen

-- what code remembers of a part
abbrev pub begun_of : Begun → model.Begun
begun_of begun.Nothing = model.nothing
begun_of begun.Backslash = model.backslash
begun_of begun.Percent = model.percent
begun_of begun.PercentL = model.percent_l

-- a part, where it is there
abbrev pub whole : Option Part → Seen
whole None = seen.Bad
whole (Some part) = seen.Whole part

-- what a byte makes of what has been read of a part
abbrev pub read_of : Begun → ℕ → Seen
read_of begun.Nothing b =
    if b == 92 then seen.Begun begun.Backslash
    else (if b == 37 then seen.Begun begun.Percent else whole (if is_plain b then Some (Byte b) else None))
read_of begun.Backslash b = whole (escaped b)
read_of begun.Percent b = if b == 108 then seen.Begun begun.PercentL else whole (if b == 37 then Some (Byte 37) else None)
read_of begun.PercentL b = whole (if b == 100 then Some Long else None)

-- the parts that bytes mean behind it
abbrev pub behind_read : Seen → List ℕ → Option (List Part)
behind_read seen.Bad bytes = None
behind_read (seen.Begun begun) bytes = parts_from (begun_of begun) bytes
behind_read (seen.Whole part) bytes = option_map (λ rest. part ∷ rest) (parts_from model.nothing bytes)
