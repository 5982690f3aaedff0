-- The program that an unbroken tree is lowered to is well formed.
use Rattle.std.proofs.Common.{◌≡◌, ◌∙◌, ap, sym, ℕ, suc, ◌+◌, Bool, true, false, not, ◌||◌, if◌then◌else◌, List, [], ◌∷◌, ◌++◌, length, map, flat_map, take, slice_get, None, refl, arith}
use Rattle.std.specs.List.{list_all}
use Rattle.std.specs.Map.{lookup}
use Rattle.std.specs.Prelude.{IsTrue, is_some}
use Rattle.std.specs.Str.{bytes_eq}
use Rattle.std.proofs.lemmas.Bool.{and_from}
use Rattle.std.proofs.lemmas.List.Folds.{list_all-append}
use Rattle.word_ops.specs.Report.{below}
use Rattle.word_ops.specs.declared.place.Pos.{Pos}
use Rattle.cilk_ast.specs.Kept.{takes, keeps_function, keeps}
use Rattle.cilk_ast.specs.declared.kind.Kind.{Kind}
use Rattle.cilk_ast.specs.declared.program.Function.{Function}
use Rattle.cilk_ast.specs.declared.tree.Item.{Item}
use Rattle.cilk_ast.specs.declared.tree.Param.{Param}
use Rattle.cilk_ast.specs.declared.tree.TStmt.{TStmt}
use Rattle.cilk_ast.specs.declared.tree.Tree.{Tree}
use Rattle.cilk_ast.specs.declared.fault.FaultKind.TheVariants as fault
use Rattle.cilk_ast.specs.declared.kind.Kind.TheVariants as sort
use Rattle.cilk_ast.specs.declared.tree.Item.TheVariants as item
use Rattle.cilk_model.specs.Breaks.{max_functions, too_many, Entry, entries_from, known_at, is_main, has_params, head_faults, at_head, item_faults, faults_from, functions_of, has_main, faults_of_tree}
use Rattle.cilk_model.specs.Checked.{tree_fault}
use Rattle.cilk_model.specs.FirstFault.{broken_if}
use Rattle.cilk_model.specs.Locals.{after_params}
use Rattle.cilk_model.specs.Lowering.{Parts, Lowered, lowered, lowered_from, main_of, lower}
use Rattle.cilk_model.specs.Sorts.{same_kind}
use Rattle.cilk_model.specs.StatementLowering.{bodies_of}
use Rattle.cilk_types.proofs.KeptLists.{is_unbroken, no_fault, no_right, not_broken, three_unbroken}
use Rattle.cilk_types.proofs.KeptStands.{Stands, stands_behind, stands_first, stands_left, stands_rest, stands_right, takes_at}
use Rattle.cilk_types.proofs.KeptItems.{ItemKept, item_kept, item_many}
use Rattle.cilk_types.proofs.KeptFiles.{function_unbroken, entries_there, files_there, is_there}

-- ---- items

-- every function of items is well formed
pub record ItemsKept (functions : List Function) (these : List Lowered) : Type 0 where
  pub written : list_all (keeps_function functions) (map (λ f. f.function) these) ≡ true
  pub bodies : list_all (keeps_function functions) (flat_map (λ f. f.bodies) these) ≡ true

module _ (functions : List Function) (entries : List Entry) (there : list_all (λ e. is_there functions e.1) entries ≡ true) where
  function_kept : (k next : ℕ) (at : Pos) (result : Kind) (name_at : Pos) (name : List ℕ) (params : List Param) (body : TStmt) →
      item_faults (known_at entries k) (item.Function at result name_at name params body) ≡ [] →
      Stands functions next (lowered (known_at entries k) name params body next).bodies →
      ItemKept functions (lowered (known_at entries k) name params body next)
  function_kept k next at result name_at name params body h stands =
      let unbroken = function_unbroken (known_at entries k) at result name_at name params body h in
      item_kept functions (known_at entries k) (files_there functions entries there k) result name params unbroken.few_params next body unbroken.few_locals
      unbroken.inner stands

  pub items_kept : (k next : ℕ) (items : List Item) → faults_from entries k items ≡ [] →
      Stands functions next (flat_map (λ f. f.bodies) (lowered_from entries k next items)) → ItemsKept functions (lowered_from entries k next items)
  items_kept k next [] h stands = record { written = refl; bodies = refl }
  items_kept k next (item.Global at name kind replicated ∷ items) h stands =
      let twice = broken_if (is_some (lookup (bytes_eq name) (take k entries))) fault.Twice at in
      items_kept (suc k) next items ((three_unbroken twice [] (faults_from entries (suc k) items) h).third) stands
  items_kept k next (item.Function at result name_at name params body ∷ items) h stands =
      let twice = broken_if (is_some (lookup (bytes_eq name) (take k entries))) fault.Twice name_at in
      let own = item_faults (known_at entries k) (item.Function at result name_at name params body) in
      let parts = three_unbroken twice own (faults_from entries (suc k) items) h in
      let first = lowered (known_at entries k) name params body next in
      let rest = flat_map (λ f. f.bodies) (lowered_from entries (suc k) (next + bodies_of body) items) in
      let kept = function_kept k next at result name_at name params body parts.second (stands_left functions next first.bodies rest stands) in
      let others =
      items_kept (suc k) (next + bodies_of body) items parts.third
      (stands_right functions next (bodies_of body) first.bodies rest
      (item_many name body (after_params params (at_head (known_at entries k))) (below (length params)) next) stands) in
      record {
        written = and_from _ _ kept.function others.written;
        bodies = list_all-append (keeps_function functions) first.bodies rest ∙ and_from _ _ kept.bodies others.bodies;
      }

  -- ---- main

  no_params : (params : List Param) → has_params params ≡ false → length params ≡ 0
  no_params [] h = refl
  no_params (p ∷ params) h = cc

  main_first : (at : Pos) (result : Kind) (name_at : Pos) (name : List ℕ) (params : List Param) → is_main name ≡ true →
      head_faults at result name_at name params ≡ [] → length params ≡ 0
  main_first at result name_at name params e h =
      let wrong = broken_if (same_kind sort.Void result || same_kind sort.Ptr result) fault.WrongType at in
      let given = broken_if (has_params params) fault.WrongCount name_at in
      let chosen : wrong ++ given ≡ [] =
      sym (ap (λ b. if b then wrong ++ given else broken_if (same_kind sort.Int result) fault.WrongType at) e) ∙ h in
      no_params params (is_unbroken (has_params params) fault.WrongCount name_at (no_right wrong given chosen))

  -- main here, or later
  main_at : (i later : ℕ) (rest here : Bool) → (here ≡ true → takes functions i 0 ≡ true) →
      (rest ≡ true → takes functions (suc i + later) 0 ≡ true) → (here || rest) ≡ true → takes functions (i + (if here then 0 else suc later)) 0 ≡ true
  main_at i later rest true first others m = let same : i + 0 ≡ i = omega arith in ap (λ n. takes functions n 0) same ∙ first refl
  main_at i later rest false first others m = let same : i + suc later ≡ suc i + later = omega arith in ap (λ n. takes functions n 0) same ∙ others m

  -- main is there, without parameters, where it is written
  pub main_there : (k next i : ℕ) (items : List Item) → faults_from entries k items ≡ [] → has_main (functions_of items) ≡ true →
      Stands functions i (map (λ f. f.function) (lowered_from entries k next items)) → takes functions (i + main_of (functions_of items)) 0 ≡ true
  main_there k next i [] h m stands = cc
  main_there k next i (item.Global at name kind replicated ∷ items) h m stands =
      let twice = broken_if (is_some (lookup (bytes_eq name) (take k entries))) fault.Twice at in
      main_there (suc k) next i items ((three_unbroken twice [] (faults_from entries (suc k) items) h).third) m stands
  main_there k next i (item.Function at result name_at name params body ∷ items) h m stands =
      let twice = broken_if (is_some (lookup (bytes_eq name) (take k entries))) fault.Twice name_at in
      let own = item_faults (known_at entries k) (item.Function at result name_at name params body) in
      let parts = three_unbroken twice own (faults_from entries (suc k) items) h in
      let first = (lowered (known_at entries k) name params body next).function in
      let rest = map (λ f. f.function) (lowered_from entries (suc k) (next + bodies_of body) items) in
      main_at i (main_of (functions_of items)) (has_main (functions_of items)) (is_main name)
      (λ e.
      takes_at functions i 0 first (stands_first functions i first rest stands)
      (main_first at result name_at name params e (function_unbroken (known_at entries k) at result name_at name params body parts.second).head))
      (λ none. main_there (suc k) (next + bodies_of body) (suc i) items parts.third none (stands_rest functions i first rest stands))
      m

-- ---- the file

-- all functions stand in their places
all_stand : (functions : List Function) → Stands functions 0 functions
all_stand functions = record { at = λ i f h. let same : 0 + i ≡ i = omega arith in ap (slice_get functions) same ∙ h }

pub as_many_functions : (entries : List Entry) (k next : ℕ) (items : List Item) →
    length (map (λ f. f.function) (lowered_from entries k next items)) ≡ length (functions_of items)
as_many_functions entries k next [] = refl
as_many_functions entries k next (item.Global at name kind replicated ∷ items) = as_many_functions entries (suc k) next items
as_many_functions entries k next (item.Function at result name_at name params body ∷ items) =
    ap (λ n. suc n) (as_many_functions entries (suc k) (next + bodies_of body) items)

-- an unbroken tree is lowered to a program that is well formed
pub kept_tree : (tree : Tree) → tree_fault tree ≡ None → keeps (lower tree).functions (lower tree).main ≡ true
kept_tree tree h =
    let items = tree.items in
    let entries = entries_from 0 0 0 items in
    let next = length (functions_of items) in
    let these = lowered_from entries 0 next items in
    let written = map (λ f. f.function) these in
    let bodies = flat_map (λ f. f.bodies) these in
    let functions = written ++ bodies in
    let over = too_many max_functions (map (λ f. f.0) (functions_of items)) in
    let no_main = broken_if (not (has_main (functions_of items))) fault.NoMain tree.end in
    let parts = three_unbroken (faults_from entries 0 items) over no_main (no_fault (faults_of_tree tree) h) in
    let many = as_many_functions entries 0 next items in
    let written_stand = stands_left functions 0 written bodies (all_stand functions) in
    let bodies_stand = stands_behind functions 0 next written bodies (omega arith) (all_stand functions) in
    let there = entries_there functions 0 0 0 entries 0 next items written_stand in
    let kept = items_kept functions entries there 0 next items parts.first bodies_stand in
    let has = not_broken (has_main (functions_of items)) fault.NoMain tree.end parts.third in
    let main = main_there functions entries there 0 next 0 items parts.first has written_stand in
    let place : main_of (functions_of items) ≡ 0 + main_of (functions_of items) = omega arith in
    and_from _ _ (ap (λ n. takes functions n 0) place ∙ main)
    (list_all-append (keeps_function functions) written bodies ∙ and_from _ _ kept.written kept.bodies)

-- the parts that a program takes from an unbroken tree are well formed
pub kept_parts : (tree : Tree) (parts : Parts) → parts ≡ lower tree → tree_fault tree ≡ None → IsTrue (keeps parts.functions parts.main)
kept_parts tree parts same unbroken = ap (λ (p : Parts). keeps p.functions p.main) same ∙ kept_tree tree unbroken
