-- How items are read, step by step as the code takes tokens.
use Rattle.std.proofs.Common.{◌≡◌, ℕ, Bool, true, false, List, [], ◌∷◌, ◌++◌, Option, Some, None, Ok, Err, refl, ◌∙◌}
use Rattle.std.specs.Prelude.{is_some}
use Rattle.word_ops.specs.declared.place.Pos.{Pos}
use Rattle.cilk_ast.specs.declared.kind.Kind.{Kind}
use Rattle.cilk_ast.specs.declared.kind.Kind.TheVariants.{Void, Int}
use Rattle.cilk_ast.specs.declared.tree.Param.{Param}
use Rattle.cilk_ast.specs.declared.tree.Item.{Item}
use Rattle.cilk_ast.specs.declared.tree.Item.TheVariants.{Function}
use Rattle.cilk_ast.specs.declared.tree.Tree.{Tree}
use Rattle.cilk_model.specs.Grammar.{Row}
use Rattle.cilk_model.specs.Tests.{is_mark, is_finish, starts}
use Rattle.cilk_model.specs.GrammarForms.{Val, star, block, params, param, more_params, function, more_globals, item, items, file}
use Rattle.cilk_parser.specs.Parsers.{Answer, Parser, goes_on, ◌>>=◌, gives, ◌▹◌, seen, behind, choose, take}
use Rattle.cilk_parser.specs.Kinds.{a_mark, a_word, a_name, a_finish}
use Rattle.cilk_parser.specs.Reading.{body_of, closed}
use Rattle.cilk_parser.specs.Read.{read}
use Rattle.cilk_parser.specs.Gives.{prefixed, left_behind}
use Rattle.cilk_parser.specs.Parts.{read_global, then_globals, read_replicated, read_function_named, read_long}
use Rattle.cilk_parser.proofs.Fuel.{read_body}
use Rattle.cilk_parser.proofs.Steps.{Found, chose, passed, skipped, not_skipped, when_next, when_not, one_before}

pub param_step : (ts : Row) → read param ts ≡ goes_on (λ _. read star >>= λ k. take a_name ▹ λ x. (let p : Param = record { pos = x.0; kind = k; name = x.1 } in p)) (take (a_word "long") ts)
unfolding body_of
param_step ts = read_body param ts

abbrev pub listed_params : Parser (Val params)
listed_params = read param >>= λ x. read more_params ▹ λ xs. x ∷ xs

abbrev pub some_params : Parser (Val params)
some_params = choose (a_word "void") (λ _. gives []) listed_params

fronts : (a : Answer Param) → goes_on (λ x. read more_params ▹ λ xs. x ∷ xs) a ≡ goes_on (λ x z. prefixed (x ∷ []) (read more_params z)) a
fronts (Ok a) = one_before (a.0) (read more_params (a.1))
fronts (Err r) = refl

pub params_none : (ts : Row) → starts (is_mark ")") ts ≡ true → read params ts ≡ Ok ([], ts)
unfolding body_of
params_none ts e = read_body params ts ∙ when_next (is_mark ")") (gives []) some_params ts e

pub params_some : (ts : Row) → starts (is_mark ")") ts ≡ false → read params ts ≡ some_params ts
unfolding body_of
params_some ts e = read_body params ts ∙ when_not (is_mark ")") (gives []) some_params ts e

pub void_there : (o : Option Pos) (ts left : Row) → Found (a_word "void") ts o → left ≡ left_behind o ts → is_some o ≡ true → some_params ts ≡ Ok ([], left)
void_there o ts left e d t = skipped (a_word "void") (λ _. gives []) listed_params (gives []) o ts left e d t (λ k. refl)

pub void_not : (o : Option Pos) (ts left : Row) → Found (a_word "void") ts o → left ≡ left_behind o ts → is_some o ≡ false →
    some_params ts ≡ goes_on (λ x z. prefixed (x ∷ []) (read more_params z)) (read param left)
void_not o ts left e d t = not_skipped (a_word "void") (λ _. gives []) listed_params o ts left e d t ∙ fronts (read param left)

pub param_there : (o : Option Pos) (ts left : Row) → Found (a_mark ",") ts o → left ≡ left_behind o ts → is_some o ≡ true →
    read more_params ts ≡ goes_on (λ x z. prefixed (x ∷ []) (read more_params z)) (read param left)
unfolding body_of
param_there o ts left e d t = read_body more_params ts ∙ skipped (a_mark ",") (λ _. listed_params) (gives []) listed_params o ts left e d t (λ k. refl) ∙ fronts (read param left)

pub param_not : (o : Option Pos) (ts left : Row) → Found (a_mark ",") ts o → left ≡ left_behind o ts → is_some o ≡ false → read more_params ts ≡ Ok ([], left)
unfolding body_of
param_not o ts left e d t = read_body more_params ts ∙ not_skipped (a_mark ",") (λ _. listed_params) (gives []) o ts left e d t

-- ---- Functions and globals

abbrev pub function_end : Pos → Kind → Pos → List ℕ → List Param → Parser (List Item)
function_end at k n f ps = choose (a_mark ";") (λ _. gives []) (read block ▹ λ s. Function at k n f ps s ∷ [])

pub function_step : (at : Pos) (k : Kind) (n : Pos) (f : List ℕ) (ts : Row) →
    read (function at k n f) ts ≡ goes_on (λ _. read params >>= λ ps. take (a_mark ")") >>= λ _. function_end at k n f ps) (take (a_mark "(") ts)
unfolding body_of
function_step at k n f ts = read_body (function at k n f) ts

pub prototype_there : (at : Pos) (k : Kind) (n : Pos) (f : List ℕ) (ps : List Param) (o : Option Pos) (ts left : Row) → Found (a_mark ";") ts o → left ≡ left_behind o ts → is_some o ≡ true →
    function_end at k n f ps ts ≡ Ok ([], left)
prototype_there at k n f ps o ts left e d t = skipped (a_mark ";") (λ _. gives []) (read block ▹ λ s. Function at k n f ps s ∷ []) (gives []) o ts left e d t (λ q. refl)

pub prototype_not : (at : Pos) (k : Kind) (n : Pos) (f : List ℕ) (ps : List Param) (o : Option Pos) (ts left : Row) → Found (a_mark ";") ts o → left ≡ left_behind o ts → is_some o ≡ false →
    function_end at k n f ps ts ≡ goes_on (λ s z. Ok (Function at k n f ps s ∷ [], z)) (read block left)
prototype_not at k n f ps o ts left e d t = not_skipped (a_mark ";") (λ _. gives []) (read block ▹ λ s. Function at k n f ps s ∷ []) o ts left e d t

pub global_there : (r : Bool) (o : Option Pos) (ts left : Row) → Found (a_mark ",") ts o → left ≡ left_behind o ts → is_some o ≡ true →
    read (more_globals r) ts ≡ read_global r (then_globals r) left
unfolding body_of
global_there r o ts left e d t = read_body (more_globals r) ts ∙ skipped (a_mark ",") (λ _. read_global r (then_globals r)) (closed ";" []) (read_global r (then_globals r)) o ts left e d t (λ k. refl)

pub global_not : (r : Bool) (o : Option Pos) (ts left : Row) → Found (a_mark ",") ts o → left ≡ left_behind o ts → is_some o ≡ false →
    read (more_globals r) ts ≡ goes_on (λ _ z. Ok ([], z)) (take (a_mark ";") left)
unfolding body_of
global_not r o ts left e d t = read_body (more_globals r) ts ∙ not_skipped (a_mark ",") (λ _. read_global r (then_globals r)) (closed ";" []) o ts left e d t

abbrev pub item_2 : Parser (List Item)
item_2 = choose (a_word "int") (λ at. read_function_named at Int) read_long

abbrev pub item_1 : Parser (List Item)
item_1 = choose (a_word "void") (λ at. read_function_named at Void) item_2

pub replicated_there : (o : Option Pos) (ts left : Row) → Found (a_word "replicated") ts o → left ≡ left_behind o ts → is_some o ≡ true → read item ts ≡ read_replicated left
unfolding body_of
replicated_there o ts left e d t = read_body item ts ∙ skipped (a_word "replicated") (λ _. read_replicated) item_1 read_replicated o ts left e d t (λ k. refl)

pub replicated_not : (o : Option Pos) (ts left : Row) → Found (a_word "replicated") ts o → left ≡ left_behind o ts → is_some o ≡ false → read item ts ≡ item_1 left
unfolding body_of
replicated_not o ts left e d t = read_body item ts ∙ not_skipped (a_word "replicated") (λ _. read_replicated) item_1 o ts left e d t

pub void_item : (at : Pos) (ts left : Row) → seen (a_word "void") ts ≡ Some at → left ≡ behind ts → item_1 ts ≡ read_function_named at Void left
void_item at ts left e d = chose (a_word "void") (λ at. read_function_named at Void) item_2 at ts left e d

pub no_void_item : (ts left : Row) → seen (a_word "void") ts ≡ None → left ≡ ts → item_1 ts ≡ item_2 left
no_void_item ts left e d = passed (a_word "void") (λ at. read_function_named at Void) item_2 ts left e d

pub int_item : (at : Pos) (ts left : Row) → seen (a_word "int") ts ≡ Some at → left ≡ behind ts → item_2 ts ≡ read_function_named at Int left
int_item at ts left e d = chose (a_word "int") (λ at. read_function_named at Int) read_long at ts left e d

pub no_int_item : (ts left : Row) → seen (a_word "int") ts ≡ None → left ≡ ts → item_2 ts ≡ read_long left
no_int_item ts left e d = passed (a_word "int") (λ at. read_function_named at Int) read_long ts left e d

-- ---- The file

abbrev pub some_items : Parser (List Item)
some_items = read item >>= λ fs. read items ▹ λ gs. fs ++ gs

pub items_none : (ts : Row) → starts is_finish ts ≡ true → read items ts ≡ Ok ([], ts)
unfolding body_of
items_none ts e = read_body items ts ∙ when_next is_finish (gives []) some_items ts e

pub items_some : (ts : Row) → starts is_finish ts ≡ false → read items ts ≡ goes_on (λ fs z. prefixed fs (read items z)) (read item ts)
unfolding body_of
items_some ts e = read_body items ts ∙ when_not is_finish (gives []) some_items ts e ∙ each (read item ts) where
  front : (fs : List Item) (a : Answer (List Item)) → goes_on (λ gs z. Ok (fs ++ gs, z)) a ≡ prefixed fs a
  front fs (Ok a) = refl
  front fs (Err r) = refl

  each : (a : Answer (List Item)) → goes_on (λ fs. read items ▹ λ gs. fs ++ gs) a ≡ goes_on (λ fs z. prefixed fs (read items z)) a
  each (Ok a) = front (a.0) (read items (a.1))
  each (Err r) = refl

pub file_step : (ts : Row) → read file ts ≡ goes_on (λ fs. take a_finish ▹ λ at. (let x : Tree = record { items = fs; end = at } in x)) (read items ts)
unfolding body_of
file_step ts = read_body file ts
