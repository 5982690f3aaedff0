-- What code keeps of a file's names.
use Rattle.std.specs.Prelude.{◌≡◌, ℕ, suc, true, false, List, map, filter, Option, Some, None}
use Rattle.std.specs.Option.{option_map, option_or}
use Rattle.std.specs.Map.{lookup}
use Rattle.std.specs.Str.{bytes_eq}
use Rattle.data_layout.specs.Address.{address_at}
use Rattle.cilk_ast.specs.declared.tree.Item.{Item}
use Rattle.cilk_ast.specs.declared.tree.Item.TheVariants as item
use Rattle.cilk_model.specs.Scopes as model
use Rattle.cilk_model.specs.Scopes.{Entity, local, global, function}
use Rattle.cilk_model.specs.Breaks.{Entry, is_function, entries_from}
use Rattle.cilk_types.specs.declared.scopes.GlobalWord.{GlobalWord}
use Rattle.cilk_types.specs.declared.scopes.Written.{Written}
use Rattle.cilk_types.specs.declared.counts.Counts.{Counts}
use Rattle.cilk_types.specs.Shown.{global_of, written_of}

-- the entry of an item behind so many others, and how many there are behind it
abbrev pub entry_of : Counts → Item → Entry
entry_of counts (item.Global at name kind true) =
    (name, global (record { kind = kind; replicated = true; address = address_at 31 counts.replicated }))
entry_of counts (item.Global at name kind false) =
    (name, global (record { kind = kind; replicated = false; address = address_at 32 counts.plain }))
entry_of counts (item.Function at result name_at name params body) =
    (name, function (record { result = result; params = map (λ p. p.kind) params; index = counts.functions }))

abbrev pub counted_with : Counts → Item → Counts
counted_with counts (item.Global at name kind true) = record counts { replicated = suc counts.replicated }
counted_with counts (item.Global at name kind false) = record counts { plain = suc counts.plain }
counted_with counts (item.Function at result name_at name params body) = record counts { functions = suc counts.functions }

-- the entries of items behind so many others
abbrev pub entries_behind : Counts → List Item → List Entry
entries_behind counts items = entries_from counts.functions counts.plain counts.replicated items

-- the global that something is
abbrev pub word_in : Entity → Option model.Global
word_in (global g) = Some g
word_in _ = None

-- what code keeps of entries: which of them are globals
pub record IsBefore (kept : List (List ℕ × Option GlobalWord)) (entries : List Entry) : Type 0 where
  pub marks : (name : List ℕ) → option_map (option_map global_of) (lookup (bytes_eq name) kept) ≡ option_map word_in (lookup (bytes_eq name) entries)

-- code keeps these functions
pub record AreFunctions (kept : List (List ℕ × Written)) (entries : List Entry) : Type 0 where
  pub finds : (name : List ℕ) → option_map (λ w. function (written_of w)) (lookup (bytes_eq name) kept) ≡ lookup (bytes_eq name) (filter is_function entries)

-- the functions that code has kept, and those that are still to come, are all
pub record Keeps (kept : List (List ℕ × Written)) (rest all : List Entry) : Type 0 where
  pub both : (name : List ℕ) →
      option_or (option_map (λ w. function (written_of w)) (lookup (bytes_eq name) kept)) (lookup (bytes_eq name) (filter is_function rest))
      ≡ lookup (bytes_eq name) (filter is_function all)
