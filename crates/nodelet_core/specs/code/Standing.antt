-- Contexts that stand in the order of their names.
use Rattle.std.specs.Prelude.{◌≡◌, ℕ, nat_lt, List, [], ◌∷◌, map, Bool, true, false, ◌&&◌, Option, Some, None, All, Contains}
use Rattle.std.specs.List.{list_all}
use Rattle.word_ops.specs.declared.name.Name.{Name}
use Rattle.word_ops.specs.Naming.{same_name}
use Rattle.threadlet_state.specs.declared.context.Context as carried
use Rattle.core_model.specs.Contexts.{precedes}
use Rattle.core_model.specs.Takes.{has_home}

-- The names of contexts, in their order.
abbrev pub names_of : List carried.Context → List Name
names_of contexts = map (λ (x : carried.Context). x.name) contexts

-- Each name comes before all that stand behind it.
abbrev pub ascends : List Name → Bool
ascends [] = true
ascends (name ∷ names) = list_all (precedes name) names && ascends names

-- What was looked for by a name: the context of this name, and none only where no context has it.
abbrev pub IsFound : Name → List carried.Context → Option carried.Context → Type 0
IsFound name contexts None = All (λ (x : carried.Context). same_name name x.name ≡ false) contexts
IsFound name contexts (Some x) = Contains contexts x × (name ≡ x.name)

-- A context names nodelets among n: its place, the one where it was born, and its parent's home.
abbrev pub is_among : ℕ → carried.Context → Bool
is_among n x = nat_lt x.place n && nat_lt x.home n && has_home n x.ticket

abbrev pub are_among : ℕ → List carried.Context → Bool
are_among n contexts = list_all (is_among n) contexts
