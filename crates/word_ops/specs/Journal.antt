-- The journal of a run: what was run, and its steps.
use Rattle.std.specs.Prelude.{ℕ, List, [], ◌∷◌, ◌++◌, codes, length, Some, None}
use Rattle.std.specs.List.{flat_map}
use Rattle.std.specs.Fmt.{decimal}
use Rattle.word_ops.specs.Naming.{name_text}
use Rattle.word_ops.specs.Ending.{line}
use Rattle.word_ops.specs.declared.step.Step.{Step}
use Rattle.word_ops.specs.declared.step.Step.TheVariants.{Act, Apply}

-- a step's line
abbrev pub step_line : Step → List ℕ
step_line (Act name None) = line (codes "act " ++ name_text name)
step_line (Act name (Some child)) = line (codes "act " ++ name_text name ++ codes " spawn " ++ name_text child)
step_line (Apply name nodelet) = line (codes "apply " ++ name_text name ++ 32 ∷ [] ++ decimal nodelet)

-- a line of one word and one number
abbrev pub count_line : List ℕ → ℕ → List ℕ
count_line word n = line (word ++ 32 ∷ [] ++ decimal n)

-- the journal of a run of a source text, under the rules of a version
abbrev pub journal_of : ℕ → ℕ → ℕ → List ℕ → List Step → List ℕ
journal_of version nodelets turns text steps =
    count_line (codes "emu-journal") version ++ count_line (codes "nodelets") nodelets ++ count_line (codes "turns") turns
    ++ count_line (codes "source") (length text) ++ line text
    ++ count_line (codes "steps") (length steps) ++ flat_map step_line steps ++ line (codes "end")
