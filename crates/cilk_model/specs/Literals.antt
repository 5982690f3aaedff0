-- Literals and the words that they mean.
use Rattle.std.specs.Prelude.{codes, ℕ, ◌-◌, List, get_or, length, take, drop, Bool, ◌&&◌, ◌||◌, ◌==◌, nat_lt, nat_le, if◌then◌else◌, Option, Some, None}
use Rattle.std.specs.Char.{is_ascii_digit, is_ascii_hexdigit}
use Rattle.std.specs.Int.{is_in_range}
use Rattle.std.specs.List.{list_all}
use Rattle.std.specs.Str.{bytes_eq}
use Rattle.std.specs.Str.Parse.{digits_value}

-- The greatest value of a literal.
abbrev pub max_literal : ℕ
max_literal = 9223372036854775807

-- A run without the one `L` or `l` at its end, where it has one.
abbrev pub number_part : List ℕ → List ℕ
number_part run =
    let last = get_or run (length run - 1) 0 in
    if last == 76 || last == 108 then take (length run - 1) run else run

-- `0`, or digits of which the first is from 1 to 9.
abbrev pub is_decimal : List ℕ → Bool
is_decimal number = bytes_eq number (codes "0") || (is_in_range 49 57 (get_or number 0 0) && list_all is_ascii_digit number)

-- `0x` or `0X`, and hexadecimal digits behind it.
abbrev pub is_hexadecimal : List ℕ → Bool
is_hexadecimal number =
    get_or number 0 0 == 48 && (get_or number 1 0 == 120 || get_or number 1 0 == 88)
    && nat_lt 2 (length number) && list_all is_ascii_hexdigit (drop 2 number)

-- A value that a literal can have.
abbrev pub within_literals : ℕ → Option ℕ
within_literals value = if nat_le value max_literal then Some value else None

-- The value of a run that is a literal; none where it is no literal.
abbrev pub literal_value : List ℕ → Option ℕ
literal_value run =
    let number = number_part run in
    if is_hexadecimal number then within_literals (digits_value 16 (drop 2 number))
    else (if is_decimal number then within_literals (digits_value 10 number) else None)
