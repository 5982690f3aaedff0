-- What an activation of a function has: its slots, and where its children's results go.
use Rattle.std.specs.Prelude.{ℕ, ◌-◌, List, [], ◌∷◌, ◌++◌, length, replicate, Option, Some, None, ℤ, pos, slice_set, slice_index_or}

-- The words in the slots of an activation.
abbrev pub Slots : Type 0
Slots = List ℤ

-- Where the results of the children go that are not joined, in spawn order: to a slot each, or nowhere.
abbrev pub Targets : Type 0
Targets = List (Option ℕ)

-- The deepest activation of a strand.
abbrev pub max_depth : ℕ
max_depth = 256

-- Word i of a list, and 0 where there is none.
abbrev pub word_at : List ℤ → ℕ → ℤ
word_at words i = slice_index_or words i (pos 0)

-- The slots of a function at its start: its arguments, and 0 in the others.
abbrev pub first_slots : ℕ → List ℤ → Slots
first_slots n args = args ++ replicate (n - length args) (pos 0)

-- The slots after results have gone to their targets, one after the other.
abbrev pub joined : Slots → Targets → List ℤ → Slots
joined slots [] results = slots
joined slots (target ∷ targets) [] = slots
joined slots (None ∷ targets) (result ∷ results) = joined slots targets results
joined slots (Some slot ∷ targets) (result ∷ results) = joined (slice_set slots slot result) targets results
