-- How contexts in the order of their names change.
use Rattle.std.specs.Prelude.{◌≡◌, ℕ, ◌<◌, ◌≤◌, List, length, get_or, map, Bool, true, Option, Some, None, Result, Ok, Err}
use Rattle.std.specs.List.{list_all}
use Rattle.word_ops.specs.declared.name.Name.{Name}
use Rattle.word_ops.specs.declared.place.Pos.{Pos}
use Rattle.threadlet_code.specs.declared.code.Code.{Code}
use Rattle.threadlet_state.specs.declared.context.Context as carried
use Rattle.world_model.specs.Step.{late_after}
use Rattle.core_model.specs.Contexts.{Context, precedes, context_of, with_context, without_context}
use Rattle.nodelet_core.specs.Carried.{context_in}

-- Where a name stands among names that ascend, and where it would go.
abbrev pub IsPlace : Name → List Name → Result ℕ ℕ → Type 0
IsPlace name names (Ok i) = (i < length names) × ((d : Name) → get_or names i d ≡ name)
IsPlace name names (Err i) = (i ≤ length names)
    × ((k : ℕ) (d : Name) → k < i → k < length names → precedes (get_or names k d) name ≡ true)
    × ((k : ℕ) (d : Name) → i ≤ k → k < length names → precedes name (get_or names k d) ≡ true)

-- A context came, or took the place of the one of its name. What holds of it and of all that stood before, holds of
-- all that stand now.
pub record IsWith (x : carried.Context) (before after : List carried.Context) : Type 0 where
  pub stands : (code : Code) → map (context_in code) after ≡ with_context (context_in code x) (map (context_in code) before)
  pub keeps : (p : carried.Context → Bool) → p x ≡ true → list_all p before ≡ true → list_all p after ≡ true

-- The context of a name is gone, and the others stand as before.
pub record IsWithout (name : Name) (before after : List carried.Context) : Type 0 where
  pub stands : (code : Code) → map (context_in code) after ≡ without_context name (map (context_in code) before)
  pub keeps : (p : carried.Context → Bool) → list_all p before ≡ true → list_all p after ≡ true

-- What one that left is: the one that had the name. What holds of all that stood before holds of it.
abbrev pub IsTaken : Name → List carried.Context → Option carried.Context → Type 0
IsTaken name before None = (code : Code) → context_of name (map (context_in code) before) ≡ None
IsTaken name before (Some x) = ((code : Code) → context_of name (map (context_in code) before) ≡ Some (context_in code x))
    × ((p : carried.Context → Bool) → list_all p before ≡ true → p x ≡ true)

-- A context whose operation was not granted is late from its first such place on.
abbrev pub with_late : Pos → Option Context → List Context → List Context
with_late at None contexts = contexts
with_late at (Some x) contexts = with_context (record x { late = Some (late_after x.late at) }) contexts

-- Where a context has the name, it is late; all else is as before. What holds of contexts whatever their late position
-- goes on to hold.
pub record IsLater (name : Name) (at : Pos) (before after : List carried.Context) : Type 0 where
  pub stands : (code : Code) → map (context_in code) after ≡ with_late at (context_of name (map (context_in code) before)) (map (context_in code) before)
  pub keeps : (p : carried.Context → Bool) → ((x : carried.Context) (late : Option Pos) → p x ≡ true → p (record x { late = late }) ≡ true)
      → list_all p before ≡ true → list_all p after ≡ true
