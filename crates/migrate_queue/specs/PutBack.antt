-- Packets that are put back.
use Rattle.std.specs.Prelude.{◌-◌, List, length, take, Option, option_to_list}

-- What came in, without the last of it where that is put back.
abbrev pub still_taken : {A : Type 0} → List A → Option A → List A
still_taken received back = take (length received - length (option_to_list back)) received
