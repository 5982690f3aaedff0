-- The first fault in an item, part by part.
use Rattle.std.proofs.Common.{◌≡◌, ◌∙◌, ap, sym, ℕ, zero, suc, Bool, not, List, [], ◌∷◌, ◌++◌, map, drop, take, append_assoc, Option, Some, None, refl}
use Rattle.std.specs.Prelude.{is_some}
use Rattle.std.specs.List.{slice_get}
use Rattle.std.specs.Map.{lookup}
use Rattle.std.specs.Str.{bytes_eq}
use Rattle.word_ops.specs.declared.place.Pos.{Pos}
use Rattle.cilk_ast.specs.declared.fault.FaultKind.TheVariants as fault
use Rattle.cilk_ast.specs.declared.fault.TextFault.{TextFault}
use Rattle.cilk_ast.specs.declared.kind.Kind.{Kind}
use Rattle.cilk_ast.specs.declared.tree.Param.{Param}
use Rattle.cilk_ast.specs.declared.tree.TStmt.{TStmt}
use Rattle.cilk_ast.specs.declared.tree.Tree.{Tree}
use Rattle.cilk_ast.specs.declared.tree.Item.{Item}
use Rattle.cilk_ast.specs.declared.tree.Item.TheVariants as item
use Rattle.cilk_model.specs.FirstFault.{broken_if, earlier, first_fault}
use Rattle.cilk_model.specs.Scopes.{Names, Scopes}
use Rattle.cilk_model.specs.Locals.{locals_of, after_params}
use Rattle.cilk_model.specs.StatementBreaks.{faults_in_body}
use Rattle.cilk_model.specs.Breaks.{Entry, known_at, at_head, head_faults, param_faults, too_many, max_params, max_locals, item_faults, item_name, item_place, faults_from, entries_from, functions_of, has_main, max_functions}
use Rattle.cilk_model.specs.Checked.{tree_fault}
use Rattle.cilk_types.specs.Checking.{function_found, item_found, found_from}
use Rattle.cilk_types.specs.Places.{places_in}
use Rattle.cilk_types.proofs.FaultOrder.{earlier_none, earlier_assoc, first_fault_append}
use Rattle.cilk_types.proofs.Judgements.{of_parts}
use Rattle.cilk_types.proofs.ArgumentLemmas.{drop_item}

-- five lists of faults, one after the other
five : (a b c d e : List TextFault) →
    first_fault (a ++ b ++ c ++ d ++ e) ≡ earlier (first_fault a) (earlier (earlier (earlier (first_fault b) (first_fault c)) (first_fault d)) (first_fault e))
five a b c d e =
    ap first_fault (append_assoc (a ++ b ++ c) d e ∙ append_assoc (a ++ b) c (d ++ e) ∙ append_assoc a b (c ++ (d ++ e)))
    ∙ first_fault_append a (b ++ (c ++ (d ++ e)))
    ∙ ap (earlier (first_fault a))
    (first_fault_append b (c ++ (d ++ e)) ∙ ap (earlier (first_fault b)) (first_fault_append c (d ++ e) ∙ ap (earlier (first_fault c)) (first_fault_append d e))
    ∙ sym (earlier_assoc (first_fault b) (first_fault c) (earlier (first_fault d) (first_fault e)))
    ∙ sym (earlier_assoc (earlier (first_fault b) (first_fault c)) (first_fault d) (first_fault e)))

pub item_function_found : (file : Names) (at : Pos) (gives : Kind) (name_at : Pos) (name : List ℕ) (params : List Param) (body : TStmt) →
    item_found file (item.Function at gives name_at name params body)
    ≡ earlier (first_fault (head_faults at gives name_at name params)) (function_found file gives params body)
unfolding item_found function_found
item_function_found file at gives name_at name params body =
    five (head_faults at gives name_at name params) (param_faults params (at_head file)) (too_many max_params (map (λ p. p.pos) params))
    (faults_in_body gives body (after_params params (at_head file))) (too_many max_locals (locals_of body))

pub item_global_found : (file : Names) (at : Pos) (name : List ℕ) (kind : Kind) (replicated : Bool) → item_found file (item.Global at name kind replicated) ≡ None
unfolding item_found
item_global_found file at name kind replicated = refl

-- a function, with what code finds in its parts
pub function_is :
    (file : Names) (gives : Kind) (params : List Param) (body : TStmt) (head inner : Scopes) (places locals : List Pos) (a b c d x y z : Option TextFault) →
    head ≡ at_head file → a ≡ first_fault (param_faults params head) → inner ≡ after_params params head → places ≡ map (λ p. p.pos) params →
    b ≡ first_fault (too_many max_params places) → c ≡ first_fault (faults_in_body gives body inner) → locals ≡ places_in body →
    d ≡ first_fault (too_many max_locals locals) → x ≡ earlier a b → y ≡ earlier x c → z ≡ earlier y d → z ≡ function_found file gives params body
unfolding function_found places_in
function_is file gives params body head inner places locals a b c d x y z is_head is_a is_inner is_places is_b is_c is_locals is_d is_x is_y is_z =
    let a' = is_a ∙ ap (λ s. first_fault (param_faults params s)) is_head in
    let b' = is_b ∙ ap (λ ps. first_fault (too_many max_params ps)) is_places in
    let c' = is_c ∙ ap (λ s. first_fault (faults_in_body gives body s)) (is_inner ∙ ap (after_params params) is_head) in
    let d' = is_d ∙ ap (λ ps. first_fault (too_many max_locals ps)) is_locals in
    is_z ∙ ap (λ f. earlier f d) (is_y ∙ ap (λ f. earlier f c) (is_x ∙ ap (λ f. earlier f b) a' ∙ ap (earlier _) b') ∙ ap (earlier _) c') ∙ ap (earlier _) d'

pub ruleset item_forms = (item_function_found, item_global_found)

-- ---- items, one after the other

-- what stands at an index, by what is left from there on
pub take_item : {X : Type 0} (xs : List X) (i : ℕ) (x : X) (rest : List X) → drop i xs ≡ x ∷ rest → take (suc i) xs ≡ take i xs ++ x ∷ []
take_item [] zero x rest h = absurd (cc h)
take_item [] (suc i) x rest h = absurd (cc h)
take_item (y ∷ xs) zero x rest h = ap (λ z. z ∷ []) (cc h)
take_item (y ∷ xs) (suc i) x rest h = ap (λ zs. y ∷ zs) (take_item xs i x rest h)

pub drop_rest : {X : Type 0} (xs : List X) (i : ℕ) (x : X) (rest : List X) → drop i xs ≡ x ∷ rest → drop (suc i) xs ≡ rest
drop_rest [] zero x rest h = absurd (cc h)
drop_rest [] (suc i) x rest h = absurd (cc h)
drop_rest (y ∷ xs) zero x rest h = cc h
drop_rest (y ∷ xs) (suc i) x rest h = drop_rest xs i x rest h

next_found : (entries : List Entry) (k : ℕ) (i : Item) (items : List Item) →
    found_from entries k (i ∷ items)
    ≡ earlier
    (earlier (first_fault (broken_if (is_some (lookup (bytes_eq (item_name i)) (take k entries))) fault.Twice (item_place i))) (item_found (known_at entries k) i))
    (found_from entries (suc k) items)
unfolding found_from item_found
next_found entries k i items =
    let twice = broken_if (is_some (lookup (bytes_eq (item_name i)) (take k entries))) fault.Twice (item_place i) in
    first_fault_append (twice ++ item_faults (known_at entries k) i) (faults_from entries (suc k) items)
    ∙ ap (λ f. earlier f (first_fault (faults_from entries (suc k) items))) (first_fault_append twice (item_faults (known_at entries k) i))

pub found_next :
    (entries : List Entry) (items : List Item) (k j : ℕ) (i : Item) (file : Names) (twice : Bool) (at : Pos) (inner again both worst new all : Option TextFault) →
    j ≡ suc k → slice_get items k ≡ Some i → file ≡ known_at entries k → twice ≡ is_some (lookup (bytes_eq (item_name i)) (take k entries)) →
    at ≡ item_place i → inner ≡ item_found file i → again ≡ first_fault (broken_if twice fault.Twice at) → both ≡ earlier again inner →
    new ≡ earlier worst both → earlier worst (found_from entries k (drop k items)) ≡ all → earlier new (found_from entries j (drop j items)) ≡ all
found_next entries items k j i file twice at inner again both worst new all next item is_file is_twice is_at is_inner is_again is_both is_new h =
    let again_is = is_again ∙ ap (λ t. first_fault (broken_if t fault.Twice at)) is_twice ∙ ap (λ p. first_fault (broken_if (is_some (lookup (bytes_eq (item_name i)) (take k entries))) fault.Twice p)) is_at in
    let inner_is = is_inner ∙ ap (λ f. item_found f i) is_file in
    ap (λ n. earlier new (found_from entries n (drop n items))) next
    ∙ ap (λ f. earlier f (found_from entries (suc k) (drop (suc k) items)))
    (is_new ∙ ap (earlier worst) (is_both ∙ ap (λ f. earlier f inner) again_is ∙ ap (earlier _) inner_is))
    ∙ earlier_assoc worst _ (found_from entries (suc k) (drop (suc k) items))
    ∙ ap (earlier worst) (sym (ap (found_from entries k) (drop_item items k i item) ∙ next_found entries k i (drop (suc k) items))) ∙ h

pub found_over : (entries : List Entry) (k : ℕ) (rest : List Item) (worst all : Option TextFault) → rest ≡ [] → earlier worst (found_from entries k rest) ≡ all → worst ≡ all
unfolding found_from
found_over entries k rest worst all none h = sym (ap (λ r. earlier worst (found_from entries k r)) none ∙ earlier_none worst) ∙ h

-- a whole tree, with what code finds in its parts
pub tree_is :
    (tree : Tree) (items : List Item) (places : List Pos) (there : Bool) (a b c x y : Option TextFault) → items ≡ tree.items →
    a ≡ found_from (entries_from 0 0 0 items) 0 items → places ≡ map (λ f. f.0) (functions_of items) → b ≡ first_fault (too_many max_functions places) →
    there ≡ has_main (functions_of items) → c ≡ first_fault (broken_if (not there) fault.NoMain tree.end) → x ≡ earlier a b → y ≡ earlier x c →
    y ≡ tree_fault tree
unfolding found_from
tree_is tree items places there a b c x y is_items is_a is_places is_b is_there is_c is_x is_y =
    let a' = is_a ∙ ap (λ is. first_fault (faults_from (entries_from 0 0 0 is) 0 is)) is_items in
    let b' = is_b ∙ ap (λ ps. first_fault (too_many max_functions ps)) (is_places ∙ ap (λ is. map (λ f. f.0) (functions_of is)) is_items) in
    let c' = is_c ∙ ap (λ t. first_fault (broken_if (not t) fault.NoMain tree.end)) (is_there ∙ ap (λ is. has_main (functions_of is)) is_items) in
    is_y ∙ ap (λ f. earlier f c) (is_x ∙ ap (λ f. earlier f b) a' ∙ ap (earlier _) b') ∙ ap (earlier _) c'
    ∙ sym
    (of_parts (faults_from (entries_from 0 0 0 tree.items) 0 tree.items) (too_many max_functions (map (λ f. f.0) (functions_of tree.items)))
    (broken_if (not (has_main (functions_of tree.items))) fault.NoMain tree.end))
