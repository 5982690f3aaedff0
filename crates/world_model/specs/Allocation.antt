-- What a request for words takes, and from where.
use Rattle.std.specs.Prelude.{ℕ, ◌+◌, ◌^◌, ℤ, pos, ◌*ℤ◌, int_le, find, if◌then◌else◌, Option, Some, None, option_map}
use Rattle.word_ops.specs.Operators.{same_word}
use Rattle.word_ops.specs.Report.{below}
use Rattle.data_layout.specs.Address.{owner_of}
use Rattle.world_model.specs.Action.{Request, Striped, Blocked, Local, Replicated}

-- The nodelet of n that serves a request: the owner of the address of a local one, else nodelet 0.
abbrev pub server_of : ℕ → ℕ → Request → ℕ
server_of n here (Striped _) = 0
server_of n here (Blocked _ _) = 0
server_of n here (Local _ _ address) = owner_of address here n
server_of n here (Replicated _) = 0

-- The view whose blocks have so many words: there is one for each power of two from 1 to 2^20.
abbrev pub block_view : ℤ → Option ℕ
block_view words = find (λ view. same_word words (pos (2 ^ view))) (below 21)

-- The view that a request takes from, and how many words; none where blocks have no view or there is no block.
abbrev pub taken_from : ℕ → ℕ → Request → Option (ℕ × ℤ)
taken_from n here (Striped words) = Some (0, words)
taken_from n here (Blocked blocks words) = if int_le (pos 1) blocks then option_map (λ view. (view, blocks *ℤ words)) (block_view words) else None
taken_from n here (Local _ words address) = Some (32 + owner_of address here n, words)
taken_from n here (Replicated words) = Some (31, words)
