-- Workloads: the source text that a number gives.
use Rattle.std.specs.Prelude.{ℕ, ◌+◌, ◌-◌, ◌*◌, ◌/◌, ◌%◌, ◌^◌, ◌==◌, List, [], ◌∷◌, ◌++◌, if◌then◌else◌}
use Rattle.std.specs.Fmt.{decimal}
use Rattle.workloads.specs.declared.templates.TheConstants.{GUPS, STREAM, CHASE, MARK, ELEMENTS, MASK, EIGHTH, STRIDE, SEED}

-- how many elements a workload has: 64, doubled 0 to 5 times
abbrev pub elements : ℕ → ℕ
elements number = 64 * 2 ^ (number / 3 % 6)

-- what tells workloads of one kind and size apart
abbrev pub seed : ℕ → ℕ
seed number = number / 18

-- how far a chase goes from one element to the next: odd, so that it comes by each of them
abbrev pub stride : ℕ → ℕ
stride number = 2 * (seed number % 16) + 3

-- the template of a workload's kind
abbrev pub template : ℕ → List ℕ
template number = if number % 3 == 0 then GUPS.now else if number % 3 == 1 then STREAM.now else CHASE.now

-- what stands in the place of a mark, by the letter of its value
abbrev pub value_text : ℕ → ℕ → List ℕ
value_text number letter =
    if letter == ELEMENTS then decimal (elements number)
    else if letter == MASK then decimal (elements number - 1)
    else if letter == EIGHTH then decimal (elements number / 8)
    else if letter == STRIDE then decimal (stride number)
    else if letter == SEED then decimal (seed number)
    else []

-- a template with texts in the place of its marks; all other bytes as they stand
abbrev pub filled : (ℕ → List ℕ) → List ℕ → List ℕ
filled text [] = []
filled text (byte ∷ []) = byte ∷ []
filled text (byte ∷ letter ∷ rest) = if byte == MARK then text letter ++ filled text rest else byte ∷ filled text (letter ∷ rest)

-- the source text of a workload
abbrev pub workload_text : ℕ → List ℕ
workload_text number = filled (value_text number) (template number)
