-- Strands' names.
use Rattle.std.specs.Prelude.{ℕ, List, ◌∷◌, ◌++◌, Bool, ◌&&◌, ◌==◌}
use Rattle.std.specs.Fmt.{decimal}
use Rattle.word_ops.specs.declared.name.Name.{Name}

-- two names are the same
abbrev pub same_name : Name → Name → Bool
same_name a b = a.nodelet == b.nodelet && a.number == b.number

-- how a name is written: the nodelet, a dot, the number
abbrev pub name_text : Name → List ℕ
name_text name = decimal name.nodelet ++ 46 ∷ decimal name.number
