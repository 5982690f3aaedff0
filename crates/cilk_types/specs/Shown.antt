-- What scopes and what they know are to a definition.
use Rattle.std.specs.Prelude.{ℕ, List, [], ◌∷◌, map, reverse, Option, Some, None}
use Rattle.std.specs.Option.{option_map, option_or}
use Rattle.std.specs.Borrow.{Bor}
use Rattle.std.specs.Map.{lookup}
use Rattle.std.specs.Str.{bytes_eq}
use Rattle.cilk_model.specs.Scopes as model
use Rattle.cilk_types.specs.declared.scopes.Local.{Local}
use Rattle.cilk_types.specs.declared.scopes.GlobalWord.{GlobalWord}
use Rattle.cilk_types.specs.declared.scopes.Written.{Written}
use Rattle.cilk_types.specs.declared.scopes.Meaning.{Meaning}
use Rattle.cilk_types.specs.declared.scopes.Meaning.TheVariants as means
use Rattle.cilk_types.specs.declared.scopes.FileNames.{FileNames}
use Rattle.cilk_types.specs.declared.scopes.Scopes.{Scopes}

abbrev pub local_of : Local → model.Local
local_of l = record { kind = l.kind; number = l.number; level = l.level }

abbrev pub global_of : GlobalWord → model.Global
global_of g = record { kind = g.kind; replicated = g.replicated; address = g.address }

abbrev pub written_of : Written → model.Written
written_of f = record { result = f.«result»; params = f.params; index = f.index }

-- what was found
abbrev pub meaning_of : Meaning → model.Entity
meaning_of (means.Local l) = model.local (local_of l)
meaning_of (means.Global g) = model.global (global_of g)
meaning_of (means.Function f) = model.function (written_of f.now)

-- the entries of a map from names
abbrev pub shown : {X Y : Type 0} → (X → Y) → List (Bor (List ℕ) × X) → List (List ℕ × Y)
shown f [] = []
shown f (e ∷ es) = (e.0.now, f e.1) ∷ shown f es

-- the entries of a map as they are
abbrev pub bare : {X : Type 0} → List (Bor (List ℕ) × X) → List (List ℕ × X)
bare es = shown (λ x. x) es

-- the global that is declared before and first, if it is one
abbrev pub global_known : Option (Option GlobalWord) → Option model.Entity
global_known (Some (Some g)) = Some (model.global (global_of g))
global_known (Some None) = None
global_known None = None

-- what the file knows of a name: a global that is declared before and first, or else a function
abbrev pub known : Option (Option GlobalWord) → Option Written → Option model.Entity
known g f = option_or (global_known g) (option_map (λ w. model.function (written_of w)) f)

-- what the file knows
abbrev pub file_of : FileNames → model.Names
file_of f name = known (lookup (bytes_eq name) (bare f.before.entries)) (lookup (bytes_eq name) (bare f.functions.entries))

-- the scopes, the innermost first: the code has it last
abbrev pub scopes_of : Scopes → model.Scopes
scopes_of s = record {
  file = file_of s.file.now;
  around = map (λ m. shown local_of m.entries) (reverse s.around);
  count = s.count;
  level = s.level;
}

-- what names stand for
abbrev pub names_of : Scopes → model.Names
names_of s = model.names_in (scopes_of s)
