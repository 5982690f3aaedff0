-- What code makes of the functions and globals of a file.
use Rattle.std.specs.Prelude.{◌≡◌, ℕ, suc, ◌+◌, Bool, true, false, List, [], ◌∷◌, ◌++◌, length, Option, Some, None}
use Rattle.word_ops.specs.Report.{below}
use Rattle.cilk_ast.specs.declared.program.Function.{Function}
use Rattle.cilk_ast.specs.declared.tree.Item.{Item}
use Rattle.cilk_ast.specs.declared.tree.Item.TheVariants as item
use Rattle.cilk_ast.specs.declared.tree.Param.{Param}
use Rattle.cilk_model.specs.Scopes.{Names}
use Rattle.cilk_model.specs.Locals.{after_params}
use Rattle.cilk_model.specs.Breaks.{Entry, known_at, at_head, functions_of}
use Rattle.cilk_model.specs.Lowering.{lowered, globals_of}
use Rattle.cilk_model.specs.StatementLowering.{bodies_of}
use Rattle.cilk_types.specs.declared.counts.Counts.{Counts}
use Rattle.cilk_types.specs.declared.lower_items.Functions.{Functions}
use Rattle.cilk_types.specs.Making.{Walked}

-- behind the parameters of a function in a file that knows these names
unfoldable pub head_of : Names → List ℕ → List Param → List Function → ℕ → Walked
head_of file name params bodies next = record {
  name = name;
  scopes = after_params params (at_head file);
  frame = below (length params);
  next = next;
  bodies = bodies;
}

-- with an item of a file that knows these names
unfoldable pub with_item : Names → Item → Functions → Functions
with_item file (item.Global at name kind replicated) f = f
with_item file (item.Function at result name_at name params body) f =
    let one = lowered file name params body f.next in
    record { written = f.written ++ one.function ∷ []; bodies = f.bodies ++ one.bodies; next = f.next + bodies_of body }

-- with items behind so many others
abbrev pub all_items : List Entry → ℕ → List Item → Functions → Functions
all_items entries k [] f = f
all_items entries k (i ∷ items) f = all_items entries (suc k) items (with_item (known_at entries k) i f)

unfoldable pub with_items : List Entry → ℕ → List Item → Functions → Functions
with_items entries k items f = all_items entries k items f

-- which function main is, where something that may be a function is main or not and stands before others
abbrev pub main_with : Option Bool → ℕ → ℕ
main_with None n = n
main_with (Some true) n = 0
main_with (Some false) n = suc n

-- how many functions and globals items have
pub record AreCounted (counts : Counts) (items : List Item) : Type 0 where
  pub functions : counts.functions ≡ length (functions_of items)
  pub plain : counts.plain ≡ globals_of false items
  pub replicated : counts.replicated ≡ globals_of true items
