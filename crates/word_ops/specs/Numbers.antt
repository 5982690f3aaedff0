-- Numbers as texts.
use Rattle.std.specs.Prelude.{ℕ, List, length, Bool, ◌&&◌, nat_le, if◌then◌else◌, Option, Some, None}
use Rattle.std.specs.Char.{is_ascii_digit}
use Rattle.std.specs.List.{list_all}
use Rattle.std.specs.Str.Parse.{digits_value}

-- the text is 1 to 20 ASCII digits
abbrev pub is_count : List ℕ → Bool
is_count text = nat_le 1 (length text) && nat_le (length text) 20 && list_all is_ascii_digit text

-- the number that such a text spells in decimal, where it is from least to most
abbrev pub count_in : List ℕ → ℕ → ℕ → Option ℕ
count_in text least most =
    let n = digits_value 10 text in
    if is_count text && nat_le least n && nat_le n most then Some n else None
