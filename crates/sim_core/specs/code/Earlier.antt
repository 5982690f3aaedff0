-- The earlier of traps.
use Rattle.std.specs.Prelude.{Option, Some, None, if◌then◌else◌}
use Rattle.core_model.specs.declared.trapped.Trapped.{Trapped}
use Rattle.core_model.specs.CoreEnd.{is_earlier}

-- The earlier of two traps, the first where they are alike.
abbrev pub earlier_of : Option Trapped → Option Trapped → Option Trapped
earlier_of None next = next
earlier_of (Some first) None = Some first
earlier_of (Some first) (Some next) = Some (if is_earlier next first then next else first)
