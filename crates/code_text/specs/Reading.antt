-- What the lines of a code text are.
use Rattle.std.specs.Prelude.{⊤, ℕ, ◌-◌, ◌^◌, ◌==◌, List, [], ◌∷◌, ◌++◌, codes, Option, Some, None, if◌then◌else◌, option_and_then, option_map}
use Rattle.std.specs.List.{fold, list_all}
use Rattle.std.specs.Str.{bytes_eq}
use Rattle.std.specs.Fmt.{decimal}
use Rattle.word_ops.specs.Numbers.{count_in}
use Rattle.word_ops.specs.Formats.{is_printable}
use Rattle.word_ops.specs.declared.place.Pos.{Pos}
use Rattle.word_ops.specs.declared.format.Part.{Part}
use Rattle.word_ops.specs.declared.format.Part.TheVariants.{Byte, Long}
use Rattle.threadlet_code.specs.declared.instr.Instr.{Instr}
use Rattle.code_text.specs.declared.due.Due.{Due}
use Rattle.code_text.specs.declared.due.Due.TheVariants.{Any, Escaped, Percent, Word}
use Rattle.code_text.specs.declared.header.Header.{Header}
use Rattle.code_text.specs.Lines.{format_text, header_text, placed_text}
use Rattle.code_text.specs.Words.{cut, index_in, instr_in}

-- what a line may be is what it is where its text is the line
abbrev pub kept : {A : Type 0} → (A → List ℕ) → List ℕ → Option A → Option A
kept text line None = None
kept text line (Some x) = if bytes_eq (text x) line then Some x else None

-- a line that says one thing
abbrev pub said_in : List ℕ → List ℕ → Option ⊤
said_in words line = if bytes_eq words line then Some tt else None

-- a word and a number
abbrev pub counted : List ℕ → ℕ → List ℕ
counted word n = word ++ 32 ∷ [] ++ decimal n

-- a line of a word and a number, up to a greatest one
abbrev pub counted_in : List ℕ → ℕ → List ℕ → Option ℕ
counted_in word most line = kept (counted word) line (option_and_then (λ x. count_in x.1 0 most) (cut 32 line))

-- the part that ends with a byte, if any, and what is due behind it
abbrev pub part_at : Due → ℕ → Option Part × Due
part_at Any b = if b == 92 then (None, Escaped) else (if b == 37 then (None, Percent) else (if b == 34 then (None, Any) else (Some (Byte b), Any)))
part_at Escaped b = (Some (Byte (if b == 110 then 10 else b)), Any)
part_at Percent b = if b == 37 then (Some (Byte 37), Any) else (None, Word)
part_at Word b = (Some Long, Any)

-- the parts so far, with one that ends here
abbrev pub with_part : List Part → Option Part → List Part
with_part parts None = parts
with_part parts (Some part) = parts ++ part ∷ []

-- a byte more of a literal
abbrev pub read_on : List Part × Due → ℕ → List Part × Due
read_on x b = (with_part x.0 (part_at x.1 b).0, (part_at x.1 b).1)

-- the format that the bytes behind the first quote may be
abbrev pub format_like : List ℕ → List Part
format_like literal = (fold read_on ([], Any) literal).0

-- a format, if a literal can spell it and it is the line
abbrev pub printable_in : List ℕ → List Part → Option (List Part)
printable_in line format = if list_all is_printable format then kept format_text line (Some format) else None

-- the line of a format
abbrev pub format_in : List ℕ → Option (List Part)
format_in line = option_and_then (λ x. printable_in line (format_like x.1)) (cut 34 line)

-- the second word, and what stands behind it
abbrev pub field : List ℕ → Option (List ℕ × List ℕ)
field text = option_and_then (λ x. cut 32 x.1) (cut 32 text)

-- a header of the texts of its numbers
abbrev pub header_from : List ℕ → List ℕ → List ℕ → List ℕ → List ℕ → Option Header
header_from p s h b c =
    option_and_then (λ params. option_and_then (λ slots. option_and_then (λ height.
    option_map (λ size. record { params = params; slots = slots; height = height; spawns = bytes_eq b (codes "1"); length = size }) (count_in c 0 (2 ^ 64 - 1)))
    (index_in h)) (index_in s)) (index_in p)

-- what a header may be
abbrev pub header_like : List ℕ → Option Header
header_like text =
    option_and_then (λ a. option_and_then (λ p. option_and_then (λ s. option_and_then (λ h. option_and_then (λ b. option_and_then (λ c.
    header_from p.0 s.0 h.0 b.0 c.1) (cut 32 b.1)) (field h.1)) (field s.1)) (field p.1)) (field a.1)) (cut 32 text)

-- the line that begins a function
abbrev pub header_in : List ℕ → Option Header
header_in line = kept header_text line (header_like line)

-- what an instruction behind its place may be
abbrev pub placed_like : List ℕ → Option (Pos × Instr)
placed_like text =
    option_and_then (λ l. option_and_then (λ c. option_and_then (λ line. option_and_then (λ column.
    option_map (λ i. (record { line = line; column = column }, i)) (instr_in c.1)) (index_in c.0)) (index_in l.0)) (cut 32 l.1)) (cut 58 text)

-- the line of an instruction
abbrev pub placed_in : List ℕ → Option (Pos × Instr)
placed_in line = kept (λ x. placed_text x.0 x.1) line (placed_like line)
