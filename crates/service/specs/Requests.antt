-- What a request takes, what is answered to it, and how many words it is granted.
use Rattle.std.specs.Prelude.{⊤, ◌<◌, ℕ, ℤ, pos, Bool, false, if◌then◌else◌, unsigned_abs, Option, Some, None}
use Rattle.word_ops.specs.declared.place.Pos.{Pos}
use Rattle.data_layout.specs.Address.{address_at}
use Rattle.data_layout.specs.Cursor.{fits_view, allocated_at, cursors_after}
use Rattle.world_model.specs.Action as act
use Rattle.world_model.specs.Allocation.{taken_from}
use Rattle.service.specs.declared.requests.AllocKind.{AllocKind}
use Rattle.service.specs.declared.requests.AllocKind.TheVariants.{Striped, Blocked, Local, Replicated}

-- Local words are asked for at one of n nodelets.
abbrev pub IsAtOneOf : ℕ → AllocKind → Type 0
IsAtOneOf n (Local nodelet) = nodelet < n
IsAtOneOf n _ = ⊤

-- A place in the text that nothing looks at.
abbrev pub nowhere : Pos
nowhere = record { line = 0; column = 0 }

-- The view that a call takes from, and how many words: those that a strand's request takes. How many nodelets
-- there are decides nothing, and where the strand is only this: local words at a nodelet are what a strand there
-- asks for by a replicated address, whose owner is the strand's place.
abbrev pub taken_by : AllocKind → ℤ → ℤ → Option (ℕ × ℤ)
taken_by Striped blocks words = taken_from 64 0 (act.Striped words)
taken_by Blocked blocks words = taken_from 64 0 (act.Blocked blocks words)
taken_by (Local nodelet) blocks words = taken_from 64 nodelet (act.Local nowhere words (address_at 31 0))
taken_by Replicated blocks words = taken_from 64 0 (act.Replicated words)

-- What is answered where these words are taken from the cursors, and 0 where none are.
abbrev pub address_of : (ℕ → ℕ) → Option (ℕ × ℤ) → ℤ
address_of cursors None = pos 0
address_of cursors (Some (view, count)) = allocated_at cursors view count

-- All cursors of n nodelets afterwards.
abbrev pub cursors_then : ℕ → (ℕ → ℕ) → Option (ℕ × ℤ) → ℕ → ℕ
cursors_then n cursors None v = cursors v
cursors_then n cursors (Some (view, count)) v = cursors_after n cursors view count v

-- A cursor at the very first word has room for these; where it has none, no cursor has.
abbrev pub has_room : Option (ℕ × ℤ) → Bool
has_room None = false
has_room (Some (view, count)) = fits_view 0 count

-- How many words are granted where the answer is an address, and 0 where every cursor refuses them.
abbrev pub words_granted : Option (ℕ × ℤ) → ℕ
words_granted None = 0
words_granted (Some (view, count)) = if fits_view 0 count then unsigned_abs count else 0
