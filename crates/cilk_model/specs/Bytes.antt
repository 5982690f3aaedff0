-- Classes of bytes.
use Rattle.std.specs.Prelude.{ℕ, Bool, not, ◌&&◌, ◌||◌, ◌==◌, nat_le}
use Rattle.std.specs.Char.{is_ascii_alphanumeric}

-- A space or a tab.
abbrev pub is_space : ℕ → Bool
is_space b = b == 32 || b == 9

-- A space, a tab, a carriage return or a newline.
abbrev pub is_blank : ℕ → Bool
is_blank b = is_space b || b == 13 || b == 10

-- A byte of a line, before its newline.
abbrev pub is_in_line : ℕ → Bool
is_in_line b = not (b == 10)

-- A letter, a digit or `_`.
abbrev pub is_run_byte : ℕ → Bool
is_run_byte b = is_ascii_alphanumeric b || b == 95

-- A byte that a text literal may hold.
abbrev pub is_text_byte : ℕ → Bool
is_text_byte b = nat_le 32 b && nat_le b 126
