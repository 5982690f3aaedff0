-- What a file knows is there in the program.
use Rattle.std.proofs.Common.{◌≡◌, ◌∙◌, ap, sym, ℕ, suc, ◌+◌, Bool, true, false, List, [], ◌∷◌, ◌++◌, length, map, filter, take, drop, refl, ◌≤◌, arith}
use Rattle.std.specs.List.{list_all}
use Rattle.std.specs.Str.{bytes_eq}
use Rattle.std.proofs.lemmas.Bool.{and_from}
use Rattle.std.proofs.lemmas.List.Folds.{list_all-append}
use Rattle.std.proofs.lemmas.List.{length-map}
use Rattle.word_ops.specs.declared.place.Pos.{Pos}
use Rattle.cilk_ast.specs.Kept.{takes}
use Rattle.cilk_ast.specs.declared.program.Function.{Function}
use Rattle.cilk_ast.specs.declared.tree.Item.{Item}
use Rattle.cilk_ast.specs.declared.kind.Kind.{Kind}
use Rattle.cilk_ast.specs.declared.tree.Param.{Param}
use Rattle.cilk_ast.specs.declared.tree.TStmt.{TStmt}
use Rattle.cilk_ast.specs.declared.tree.Item.TheVariants as item
use Rattle.cilk_model.specs.Breaks.{Entry, entries_from, is_function, known_at, max_params, max_locals, too_many, head_faults, param_faults, at_head, item_faults}
use Rattle.cilk_model.specs.Lowering.{lowered, lowered_from}
use Rattle.cilk_model.specs.Scopes.{Entity, local, global, function, Names}
use Rattle.cilk_model.specs.StatementLowering.{bodies_of}
use Rattle.cilk_model.specs.Locals.{locals_of, after_params}
use Rattle.cilk_model.specs.StatementBreaks.{faults_in_body}
use Rattle.cilk_types.proofs.KeptLists.{all_drop, all_filter, all_take, no_left, no_right, four_unbroken, few_enough}
use Rattle.cilk_types.proofs.KeptStands.{Stands, stands_first, stands_rest, takes_at}
use Rattle.cilk_types.proofs.KeptKnown.{Files, found_passes, passes}

-- ---- what a file knows

-- an entry is no local; a function is there, with as many parameters
abbrev pub is_there : List Function → Entity → Bool
is_there functions (local l) = false
is_there functions (global g) = true
is_there functions (function f) = takes functions f.index (length f.params)

module _ (functions : List Function) (entries : List Entry) (there : list_all (λ e. is_there functions e.1) entries ≡ true) where
  known_there : (k : ℕ) (name : List ℕ) → passes (is_there functions) (known_at entries k name) ≡ true
  known_there k name =
      let p : Entry → Bool = λ e. is_there functions e.1 in
      found_passes (is_there functions) (bytes_eq name) (take k entries ++ filter is_function (drop k entries))
      (list_all-append p (take k entries) (filter is_function (drop k entries))
      ∙ and_from _ _ (all_take p k entries there) (all_filter p is_function (drop k entries) (all_drop p k entries there)))

  pub files_there : (k : ℕ) → Files functions (known_at entries k)
  files_there k = record {
    agrees = record { function = λ name f is. sym (ap (passes (is_there functions)) is) ∙ known_there k name };
    no_local = λ name l is. let wrong : false ≡ true = sym (ap (passes (is_there functions)) is) ∙ known_there k name in cc;
  }

-- each entry of a file is there, where the functions that it writes stand
pub entries_there : (functions : List Function) (n plain replicated : ℕ) (entries : List Entry) (k next : ℕ) (items : List Item) →
    Stands functions n (map (λ f. f.function) (lowered_from entries k next items)) →
    list_all (λ e. is_there functions e.1) (entries_from n plain replicated items) ≡ true
entries_there functions n plain replicated entries k next [] stands = refl
entries_there functions n plain replicated entries k next (item.Global at name kind true ∷ items) stands =
    entries_there functions n plain (suc replicated) entries (suc k) next items stands
entries_there functions n plain replicated entries k next (item.Global at name kind false ∷ items) stands =
    entries_there functions n (suc plain) replicated entries (suc k) next items stands
entries_there functions n plain replicated entries k next (item.Function at result name_at name params body ∷ items) stands =
    let first = (lowered (known_at entries k) name params body next).function in
    let rest = map (λ f. f.function) (lowered_from entries (suc k) (next + bodies_of body) items) in
    and_from _ _
    (takes_at functions n (length (map (λ p. p.kind) params)) first (stands_first functions n first rest stands) (sym (length-map params (λ p. p.kind))))
    (entries_there functions (suc n) plain replicated entries (suc k) (next + bodies_of body) items (stands_rest functions n first rest stands))

-- ---- the rules of one function

-- no rule is broken in a function
pub record FunctionUnbroken (file : Names) (at : Pos) (result : Kind) (name_at : Pos) (name : List ℕ) (params : List Param) (body : TStmt) : Type 0 where
  pub head : head_faults at result name_at name params ≡ []
  pub few_params : length params ≤ 8
  pub inner : faults_in_body result body (after_params params (at_head file)) ≡ []
  pub few_locals : length (locals_of body) ≤ 250

pub function_unbroken : (file : Names) (at : Pos) (result : Kind) (name_at : Pos) (name : List ℕ) (params : List Param) (body : TStmt) →
    item_faults file (item.Function at result name_at name params body) ≡ [] → FunctionUnbroken file at result name_at name params body
function_unbroken file at result name_at name params body h =
    let head = head_faults at result name_at name params in
    let twice = param_faults params (at_head file) in
    let over = too_many max_params (map (λ p. p.pos) params) in
    let inner = faults_in_body result body (after_params params (at_head file)) in
    let over_locals = too_many max_locals (locals_of body) in
    let parts = four_unbroken head twice over inner (no_left (head ++ twice ++ over ++ inner) over_locals h) in
    let places = few_enough max_params (map (λ p. p.pos) params) parts.third in
    let many = length-map params (λ p. p.pos) in
    record {
      head = parts.first;
      few_params = omega arith;
      inner = parts.fourth;
      few_locals = few_enough max_locals (locals_of body) (no_right (head ++ twice ++ over ++ inner) over_locals h);
    }
