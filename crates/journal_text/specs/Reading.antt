-- What bytes begin with.
use Rattle.std.specs.Prelude.{ℕ, List, [], ◌∷◌, ◌-◌, ◌^◌, codes, take, drop, length, Option, Some, None, if◌then◌else◌, option_and_then, option_map}
use Rattle.std.specs.Char.{is_ascii_digit}
use Rattle.std.specs.Fmt.{decimal}
use Rattle.std.specs.List.{prefix_len}
use Rattle.std.specs.Str.{bytes_eq}
use Rattle.word_ops.specs.Numbers.{count_in}
use Rattle.word_ops.specs.declared.name.Name.{Name}
use Rattle.word_ops.specs.declared.step.Step.{Step}
use Rattle.word_ops.specs.declared.step.Step.TheVariants.{Act, Apply}

-- what stands behind the word that the bytes begin with
abbrev pub behind : List ℕ → List ℕ → Option (List ℕ)
behind word bytes = if bytes_eq (take (length word) bytes) word then Some (drop (length word) bytes) else None

-- the digits that the bytes begin with
abbrev pub digits_first : List ℕ → List ℕ
digits_first bytes = take (prefix_len is_ascii_digit bytes) bytes

-- the number from least to most that the bytes begin with, as it is printed, and what stands behind it
abbrev pub number_in : ℕ → ℕ → List ℕ → Option (ℕ × List ℕ)
number_in least most bytes =
    option_and_then (λ n. if bytes_eq (decimal n) (digits_first bytes) then Some (n, drop (prefix_len is_ascii_digit bytes) bytes) else None)
    (count_in (digits_first bytes) least most)

-- the number of the line of a word and a number that the bytes begin with, and what stands behind the line
abbrev pub count_in_line : List ℕ → ℕ → ℕ → List ℕ → Option (ℕ × List ℕ)
count_in_line word least most bytes =
    option_and_then (λ rest. option_and_then (λ x. option_map (λ rest. (x.0, rest)) (behind (10 ∷ []) x.1)) (number_in least most rest)) (behind word bytes)

-- the name that the bytes begin with, and what stands behind it
abbrev pub name_in : List ℕ → Option (Name × List ℕ)
name_in bytes =
    option_and_then (λ x. option_and_then (λ rest.
    option_map (λ y. (record { nodelet = x.0; number = y.0 }, y.1)) (number_in 0 (2 ^ 64 - 1) rest)) (behind (46 ∷ []) x.1)) (number_in 0 (2 ^ 32 - 1) bytes)

-- the name and the newline that the bytes begin with, and what stands behind them
abbrev pub name_at_end : List ℕ → Option (Name × List ℕ)
name_at_end bytes = option_and_then (λ x. option_map (λ rest. (x.0, rest)) (behind (10 ∷ []) x.1)) (name_in bytes)

-- no child where the line is over, or else the child that was spawned
abbrev pub child_or : List ℕ → Option (List ℕ) → Option (Option Name × List ℕ)
child_or bytes (Some rest) = Some (None, rest)
child_or bytes None = option_map (λ x. (Some x.0, x.1)) (option_and_then name_at_end (behind (codes " spawn ") bytes))

-- the child that the line of an action ends with, if any, and what stands behind the line
abbrev pub child_in : List ℕ → Option (Option Name × List ℕ)
child_in bytes = child_or bytes (behind (10 ∷ []) bytes)

-- the action whose line the bytes begin with, and what stands behind the line
abbrev pub act_in : List ℕ → Option (Step × List ℕ)
act_in bytes = option_and_then (λ rest. option_and_then (λ x. option_map (λ y. (Act x.0 y.0, y.1)) (child_in x.1)) (name_in rest)) (behind (codes "act ") bytes)

-- the application whose line the bytes begin with, at one of n nodelets, and what stands behind the line
abbrev pub apply_in : ℕ → List ℕ → Option (Step × List ℕ)
apply_in n bytes =
    option_and_then (λ rest. option_and_then (λ x.
    option_map (λ y. (Apply x.0 y.0, y.1)) (count_in_line (32 ∷ []) 0 (n - 1) x.1)) (name_in rest)) (behind (codes "apply ") bytes)

-- the step that was found as an action, or else as an application
abbrev pub act_or : ℕ → List ℕ → Option (Step × List ℕ) → Option (Step × List ℕ)
act_or n bytes (Some x) = Some x
act_or n bytes None = apply_in n bytes

-- the step whose line the bytes begin with, and what stands behind the line
abbrev pub step_in : ℕ → List ℕ → Option (Step × List ℕ)
step_in n bytes = act_or n bytes (act_in bytes)
