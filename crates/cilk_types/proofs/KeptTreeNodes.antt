-- The program of a tree that a text can spell has few nodes and few functions.
use Rattle.std.proofs.Common.{◌≡◌, ℕ, suc, ◌+◌, ◌*◌, ◌^◌, ◌≤◌, not, List, [], ◌∷◌, length, map, flat_map, take, None, arith, length-append, ◌<◌, Bool, true, false}
use Rattle.std.specs.Prelude.{is_some}
use Rattle.std.specs.Map.{lookup}
use Rattle.std.specs.Str.{bytes_eq}
use Rattle.std.proofs.lemmas.List.{length-map}
use Rattle.word_ops.specs.Report.{below}
use Rattle.cilk_ast.specs.declared.fault.FaultKind.TheVariants as fault
use Rattle.cilk_ast.specs.declared.tree.Item.{Item}
use Rattle.cilk_ast.specs.declared.tree.Item.TheVariants as item
use Rattle.cilk_ast.specs.declared.tree.Tree.{Tree}
use Rattle.cilk_ast.specs.declared.tree.TStmt.{TStmt, Empty, Block', Local, Eval, Assign, AddTo, Up, Down, Spawn, Break, Continue, Return, Sync, Held-TStmt-If-2, None', Row_of-TStmt as Stmts, end_of-TStmt as no_stmts, more_of-TStmt as more_stmts}
use Rattle.cilk_ast.specs.TreeStatement.{If, While, For, CilkFor, Present}
use Rattle.cilk_ast.specs.Nodes.{statement_nodes, node_count}
use Rattle.cilk_model.specs.FirstFault.{broken_if}
use Rattle.cilk_model.specs.Scopes.{Scopes}
use Rattle.cilk_model.specs.Locals.{locals_of, after_params}
use Rattle.cilk_model.specs.Copies.{Frame}
use Rattle.cilk_model.specs.StatementLowering.{bodies_of, bodies_of_part, bodies_of_all, statements}
use Rattle.cilk_model.specs.Breaks.{max_functions, too_many, Entry, entries_from, known_at, at_head, item_faults, faults_from, functions_of, has_main, faults_of_tree}
use Rattle.cilk_model.specs.Lowering.{globals_of, lowered, body_statement, body_outlines, lowered_from, lower}
use Rattle.cilk_model.specs.Checked.{tree_fault}
use Rattle.cilk_types.specs.Marks.{marks_in, marks_in_part, marks_in_all, marks_from, IsWithinText}
use Rattle.cilk_types.proofs.KeptLists.{three_unbroken, no_fault, few_enough}
use Rattle.cilk_types.proofs.KeptSimpleNodes.{block_nodes}
use Rattle.cilk_types.proofs.KeptStatementNodes.{function_nodes, function_sum, joined_nodes, statement_few, all_few}
use Rattle.cilk_types.proofs.KeptItems.{below_many, item_many}
use Rattle.cilk_types.proofs.KeptFiles.{function_unbroken}
use Rattle.cilk_types.proofs.KeptTree.{as_many_functions}

-- ---- functions

body_few : (name : List ℕ) (body : TStmt) (scopes : Scopes) (frame : Frame) (next : ℕ) → length frame + length (locals_of body) ≤ 258 →
    statement_nodes (body_statement body scopes frame next) + function_nodes (body_outlines name body scopes frame next) ≤ 64 * marks_in body
body_few name (Block' n body) scopes frame next room =
    let h = all_few name body scopes frame next room in let e = block_nodes (statements body scopes frame next) in omega arith
body_few name Empty scopes frame next room = statement_few name Empty scopes frame next room
body_few name (Local at kind variable value) scopes frame next room = statement_few name (Local at kind variable value) scopes frame next room
body_few name (Eval e) scopes frame next room = statement_few name (Eval e) scopes frame next room
body_few name (Assign at left value) scopes frame next room = statement_few name (Assign at left value) scopes frame next room
body_few name (AddTo at left value) scopes frame next room = statement_few name (AddTo at left value) scopes frame next room
body_few name (Up left) scopes frame next room = statement_few name (Up left) scopes frame next room
body_few name (Down left) scopes frame next room = statement_few name (Down left) scopes frame next room
body_few name (Spawn spawn) scopes frame next room = statement_few name (Spawn spawn) scopes frame next room
body_few name (If test yes_ no_) scopes frame next room = statement_few name (If test yes_ no_) scopes frame next room
body_few name (While test body) scopes frame next room = statement_few name (While test body) scopes frame next room
body_few name (For init test step body) scopes frame next room = statement_few name (For init test step body) scopes frame next room
body_few name (CilkFor at variable low second high third body) scopes frame next room = statement_few name (CilkFor at variable low second high third body) scopes frame next room
body_few name (Break at) scopes frame next room = statement_few name (Break at) scopes frame next room
body_few name (Continue at) scopes frame next room = statement_few name (Continue at) scopes frame next room
body_few name (Return at value) scopes frame next room = statement_few name (Return at value) scopes frame next room
body_few name Sync scopes frame next room = statement_few name Sync scopes frame next room

-- ---- items

items_few : (entries : List Entry) (k next : ℕ) (items : List Item) → faults_from entries k items ≡ [] →
    function_nodes (map (λ f. f.function) (lowered_from entries k next items)) + function_nodes (flat_map (λ f. f.bodies) (lowered_from entries k next items))
    ≤ 64 * marks_from items
items_few entries k next [] h = omega arith
items_few entries k next (item.Global at name kind replicated ∷ items) h =
    let twice = broken_if (is_some (lookup (bytes_eq name) (take k entries))) fault.Twice at in
    let rest = items_few entries (suc k) next items ((three_unbroken twice [] (faults_from entries (suc k) items) h).third) in
    omega arith
items_few entries k next (item.Function at result name_at name params body ∷ items) h =
    let file = known_at entries k in
    let twice = broken_if (is_some (lookup (bytes_eq name) (take k entries))) fault.Twice name_at in
    let own = item_faults file (item.Function at result name_at name params body) in
    let parts = three_unbroken twice own (faults_from entries (suc k) items) h in
    let unbroken = function_unbroken file at result name_at name params body parts.second in
    let few_params = unbroken.few_params in
    let few_locals = unbroken.few_locals in
    let many = below_many (length params) in
    let first = body_few name body (after_params params (at_head file)) (below (length params)) next (omega arith) in
    let rest = items_few entries (suc k) (next + bodies_of body) items parts.third in
    let sum = joined_nodes (lowered file name params body next).bodies (flat_map (λ f. f.bodies) (lowered_from entries (suc k) (next + bodies_of body) items)) in
    omega arith

mutual
  bodies_few : (s : TStmt) → bodies_of s ≤ marks_in s
  bodies_few (Block' n body) = let h = all_bodies_few body in omega arith
  bodies_few (If test yes_ no_) = let h = bodies_few yes_ in let k = part_bodies_few no_ in omega arith
  bodies_few (While test body) = let h = bodies_few body in omega arith
  bodies_few (For init test step body) = let h = part_bodies_few init in let k = part_bodies_few step in let l = bodies_few body in omega arith
  bodies_few (CilkFor at name low second high third body) = let h = bodies_few body in omega arith
  bodies_few Empty = omega arith
  bodies_few (Local at kind name value) = omega arith
  bodies_few (Eval e) = omega arith
  bodies_few (Assign at left value) = omega arith
  bodies_few (AddTo at left value) = omega arith
  bodies_few (Up left) = omega arith
  bodies_few (Down left) = omega arith
  bodies_few (Spawn spawn) = omega arith
  bodies_few (Break at) = omega arith
  bodies_few (Continue at) = omega arith
  bodies_few (Return at value) = omega arith
  bodies_few Sync = omega arith

  part_bodies_few : (part : Held-TStmt-If-2) → bodies_of_part part ≤ marks_in_part part
  part_bodies_few None' = omega arith
  part_bodies_few (Present s) = bodies_few s

  all_bodies_few : {n : _} (body : Stmts n) → bodies_of_all body ≤ marks_in_all body
  all_bodies_few no_stmts = omega arith
  all_bodies_few (more_stmts first rest) = let h = bodies_few first in let k = all_bodies_few rest in omega arith

item_bodies_few : (entries : List Entry) (k next : ℕ) (items : List Item) → length (flat_map (λ f. f.bodies) (lowered_from entries k next items)) ≤ marks_from items
item_bodies_few entries k next [] = omega arith
item_bodies_few entries k next (item.Global at name kind replicated ∷ items) = let h = item_bodies_few entries (suc k) next items in omega arith
item_bodies_few entries k next (item.Function at result name_at name params body ∷ items) =
    let file = known_at entries k in
    let h = bodies_few body in
    let e = item_many name body (after_params params (at_head file)) (below (length params)) next in
    let rest = item_bodies_few entries (suc k) (next + bodies_of body) items in
    let sum = length-append (lowered file name params body next).bodies (flat_map (λ f. f.bodies) (lowered_from entries (suc k) (next + bodies_of body) items)) in
    omega arith

-- ---- the file

-- the nodes of the program of an unbroken tree
pub tree_nodes_few : (tree : Tree) → tree_fault tree ≡ None → node_count (lower tree).functions ≤ 64 * marks_from tree.items
tree_nodes_few tree h =
    let items = tree.items in
    let entries = entries_from 0 0 0 items in
    let these = lowered_from entries 0 (length (functions_of items)) items in
    let over = too_many max_functions (map (λ f. f.0) (functions_of items)) in
    let no_main = broken_if (not (has_main (functions_of items))) fault.NoMain tree.end in
    let parts = three_unbroken (faults_from entries 0 items) over no_main (no_fault (faults_of_tree tree) h) in
    let few = items_few entries 0 (length (functions_of items)) items parts.first in
    let sum = joined_nodes (map (λ f. f.function) these) (flat_map (λ f. f.bodies) these) in
    let all = function_sum (lower tree).functions in
    omega arith

pub nodes_within_text : (tree : Tree) → tree_fault tree ≡ None → IsWithinText tree → node_count (lower tree).functions ≤ 2 ^ 28
nodes_within_text tree h within = let few = tree_nodes_few tree h in omega arith

-- the functions of the program of an unbroken tree
pub tree_functions_few : (tree : Tree) → tree_fault tree ≡ None → length (lower tree).functions ≤ 1000 + marks_from tree.items
tree_functions_few tree h =
    let items = tree.items in
    let entries = entries_from 0 0 0 items in
    let next = length (functions_of items) in
    let these = lowered_from entries 0 next items in
    let places = map (λ f. f.0) (functions_of items) in
    let over = too_many max_functions places in
    let no_main = broken_if (not (has_main (functions_of items))) fault.NoMain tree.end in
    let parts = three_unbroken (faults_from entries 0 items) over no_main (no_fault (faults_of_tree tree) h) in
    let few = few_enough max_functions places parts.second in
    let as_many = length-map (functions_of items) (λ f. f.0) in
    let written = as_many_functions entries 0 next items in
    let bodies = item_bodies_few entries 0 next items in
    let sum = length-append (map (λ f. f.function) these) (flat_map (λ f. f.bodies) these) in
    omega arith

pub functions_within_text : (tree : Tree) → tree_fault tree ≡ None → IsWithinText tree → length (lower tree).functions < 2 ^ 32
functions_within_text tree h within = let few = tree_functions_few tree h in omega arith

-- the globals of a file
globals_few : (wanted : Bool) (items : List Item) → globals_of wanted items ≤ marks_from items
globals_few wanted [] = omega arith
globals_few true (item.Global at name kind true ∷ items) = let h = globals_few true items in omega arith
globals_few true (item.Global at name kind false ∷ items) = let h = globals_few true items in omega arith
globals_few false (item.Global at name kind true ∷ items) = let h = globals_few false items in omega arith
globals_few false (item.Global at name kind false ∷ items) = let h = globals_few false items in omega arith
globals_few true (item.Function at result name_at name params body ∷ items) = let h = globals_few true items in omega arith
globals_few false (item.Function at result name_at name params body ∷ items) = let h = globals_few false items in omega arith

pub globals_within_text : (tree : Tree) → IsWithinText tree → ((lower tree).globals < 2 ^ 32) × ((lower tree).replicated < 2 ^ 32)
globals_within_text tree within = let plain = globals_few false tree.items in let copied = globals_few true tree.items in (omega arith, omega arith)
