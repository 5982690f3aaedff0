-- What a nodelet's words and grants are.
use Rattle.std.specs.Prelude.{ℕ, ℤ, Bool}
use Rattle.nodelet_mem.specs.declared.words.Words.{Words}
use Rattle.nodelet_mem.specs.Pages.{word_at}
use Rattle.nodelet_mem.specs.Grants.{is_granted_by}

-- The word at an address.
abbrev pub word_of : Words → ℤ → ℤ
word_of words address = word_at words.pages address

-- Whether an address is in a grant.
abbrev pub is_granted : Words → ℤ → Bool
is_granted words address = is_granted_by words.grants.runs address

-- For how many grants more there is room.
abbrev pub grant_room : Words → ℕ
grant_room words = words.grants.spare
