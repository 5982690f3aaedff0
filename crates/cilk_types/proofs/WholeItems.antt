-- Items, one after the other, and the program that they are.
use Rattle.std.proofs.Common.{◌≡◌, ◌∙◌, ap, sym, ℕ, suc, ◌+◌, Bool, true, false, List, [], ◌∷◌, ◌++◌, length, map, flat_map, drop, append_assoc, append-nil, Some, refl, arith}
use Rattle.std.specs.List.{slice_get}
use Rattle.word_ops.specs.declared.place.Pos.{Pos}
use Rattle.cilk_ast.specs.declared.kind.Kind.{Kind}
use Rattle.cilk_ast.specs.declared.program.Function.{Function}
use Rattle.cilk_ast.specs.declared.tree.Item.{Item}
use Rattle.cilk_ast.specs.declared.tree.Item.TheVariants as item
use Rattle.cilk_ast.specs.declared.tree.Param.{Param}
use Rattle.cilk_ast.specs.declared.tree.TStmt.{TStmt}
use Rattle.cilk_ast.specs.declared.tree.Tree.{Tree}
use Rattle.cilk_model.specs.Scopes.{Names}
use Rattle.cilk_model.specs.Breaks.{Entry, entries_from, known_at, functions_of}
use Rattle.cilk_model.specs.Lowering.{Parts, Lowered, lowered, lowered_from, main_of, globals_of, lower}
use Rattle.cilk_model.specs.StatementLowering.{bodies_of}
use Rattle.cilk_types.specs.declared.counts.Counts.{Counts}
use Rattle.cilk_types.specs.declared.lower_functions.Outlined.{Outlined}
use Rattle.cilk_types.specs.declared.lower_items.Functions.{Functions}
use Rattle.cilk_types.specs.Files.{counted_with}
use Rattle.cilk_types.specs.Functions.{with_item, with_items, all_items, AreCounted}
use Rattle.cilk_types.proofs.ArgumentLemmas.{drop_item}

-- ---- functions

pub global_with : (file : Names) (i : Item) (at : Pos) (name : List ℕ) (kind : Kind) (replicated : Bool) (f : Functions) →
    i ≡ item.Global at name kind replicated → f ≡ with_item file i f
unfolding with_item
global_with file i at name kind replicated f is = sym (ap (λ x. with_item file x f) is)

pub function_with :
    (file : Names) (i : Item) (at : Pos) (result : Kind) (name_at : Pos) (name : List ℕ) (params : List Param) (body : TStmt) (title : List ℕ)
    (given : List Param) (f out : Functions) (one : Outlined) → i ≡ item.Function at result name_at name params body → title ≡ name → given ≡ params →
    one.function ≡ (lowered file title given body f.next).function → one.bodies ≡ f.bodies ++ (lowered file title given body f.next).bodies →
    one.next ≡ f.next + bodies_of body →
    out ≡ record { written = f.written ++ one.function ∷ []; bodies = one.bodies; next = one.next } → out ≡ with_item file i f
unfolding with_item
function_with file i at result name_at name params body title given f out one is same_name same_params is_function is_bodies is_next is_out =
    is_out
    ∙ (λ k. record { written = f.written ++ is_function k ∷ []; bodies = is_bodies k; next = is_next k })
    ∙ (λ k.
    record {
      written = f.written ++ (lowered file (same_name k) (same_params k) body f.next).function ∷ [];
      bodies = f.bodies ++ (lowered file (same_name k) (same_params k) body f.next).bodies;
      next = f.next + bodies_of body;
    })
    ∙ sym (ap (λ x. with_item file x f) is)

pub items_next : (entries : List Entry) (items : List Item) (k j : ℕ) (i : Item) (file : Names) (f g all : Functions) → j ≡ suc k → slice_get items k ≡ Some i →
    file ≡ known_at entries k → g ≡ with_item file i f → with_items entries k (drop k items) f ≡ all → with_items entries j (drop j items) g ≡ all
unfolding with_items
items_next entries items k j i file f g all next item is_file is_g h =
    ap (λ n. with_items entries n (drop n items) g) next
    ∙ ap (λ x. with_items entries (suc k) (drop (suc k) items) x) (is_g ∙ ap (λ x. with_item x i f) is_file)
    ∙ sym (ap (λ rest. with_items entries k rest f) (drop_item items k i item)) ∙ h

pub items_over : (entries : List Entry) (k : ℕ) (rest : List Item) (f all : Functions) → rest ≡ [] → with_items entries k rest f ≡ all → f ≡ all
unfolding with_items
items_over entries k rest f all none h = sym (ap (λ r. with_items entries k r f) none) ∙ h

written_are : (entries : List Entry) (k : ℕ) (items : List Item) (f : Functions) →
    (all_items entries k items f).written ≡ f.written ++ map (λ (x : Lowered). x.function) (lowered_from entries k f.next items)
unfolding with_item
written_are entries k [] f = sym (append-nil f.written)
written_are entries k (item.Global at name kind replicated ∷ items) f = written_are entries (suc k) items f
written_are entries k (item.Function at result name_at name params body ∷ items) f =
    let file = known_at entries k in
    written_are entries (suc k) items (with_item file (item.Function at result name_at name params body) f)
    ∙ append_assoc f.written ((lowered file name params body f.next).function ∷ [])
    (map (λ (x : Lowered). x.function) (lowered_from entries (suc k) (f.next + bodies_of body) items))

bodies_are : (entries : List Entry) (k : ℕ) (items : List Item) (f : Functions) →
    (all_items entries k items f).bodies ≡ f.bodies ++ flat_map (λ (x : Lowered). x.bodies) (lowered_from entries k f.next items)
unfolding with_item
bodies_are entries k [] f = sym (append-nil f.bodies)
bodies_are entries k (item.Global at name kind replicated ∷ items) f = bodies_are entries (suc k) items f
bodies_are entries k (item.Function at result name_at name params body ∷ items) f =
    let file = known_at entries k in
    bodies_are entries (suc k) items (with_item file (item.Function at result name_at name params body) f)
    ∙ append_assoc f.bodies (lowered file name params body f.next).bodies
    (flat_map (λ (x : Lowered). x.bodies) (lowered_from entries (suc k) (f.next + bodies_of body) items))

-- ---- counts

functions_counted : (c : Counts) (i : Item) (rest : List Item) →
    (counted_with c i).functions + length (functions_of rest) ≡ c.functions + length (functions_of (i ∷ rest))
functions_counted c (item.Global at name kind true) rest = refl
functions_counted c (item.Global at name kind false) rest = refl
functions_counted c (item.Function at result name_at name params body) rest = omega arith

plain_counted : (c : Counts) (i : Item) (rest : List Item) → (counted_with c i).plain + globals_of false rest ≡ c.plain + globals_of false (i ∷ rest)
plain_counted c (item.Global at name kind true) rest = refl
plain_counted c (item.Global at name kind false) rest = omega arith
plain_counted c (item.Function at result name_at name params body) rest = refl

replicated_counted : (c : Counts) (i : Item) (rest : List Item) →
    (counted_with c i).replicated + globals_of true rest ≡ c.replicated + globals_of true (i ∷ rest)
replicated_counted c (item.Global at name kind true) rest = omega arith
replicated_counted c (item.Global at name kind false) rest = refl
replicated_counted c (item.Function at result name_at name params body) rest = refl

-- what is counted so far, and what is left, are all
pub record Counting (c : Counts) (rest items : List Item) : Type 0 where
  pub functions : c.functions + length (functions_of rest) ≡ length (functions_of items)
  pub plain : c.plain + globals_of false rest ≡ globals_of false items
  pub replicated : c.replicated + globals_of true rest ≡ globals_of true items

pub counting_next : (items : List Item) (k j : ℕ) (i : Item) (c d : Counts) → j ≡ suc k → slice_get items k ≡ Some i → d ≡ counted_with c i →
    Counting c (drop k items) items → Counting d (drop j items) items
counting_next items k j i c d next item is h =
    let rest = drop (suc k) items in
    let left = drop_item items k i item in
    record {
      functions =
          ap (λ n. d.functions + length (functions_of (drop n items))) next ∙ ap (λ (x : Counts). x.functions + length (functions_of rest)) is
          ∙ functions_counted c i rest ∙ sym (ap (λ r. c.functions + length (functions_of r)) left) ∙ h.functions;
      plain =
          ap (λ n. d.plain + globals_of false (drop n items)) next ∙ ap (λ (x : Counts). x.plain + globals_of false rest) is
          ∙ plain_counted c i rest ∙ sym (ap (λ r. c.plain + globals_of false r) left) ∙ h.plain;
      replicated =
          ap (λ n. d.replicated + globals_of true (drop n items)) next ∙ ap (λ (x : Counts). x.replicated + globals_of true rest) is
          ∙ replicated_counted c i rest ∙ sym (ap (λ r. c.replicated + globals_of true r) left) ∙ h.replicated;
    }

pub counting_over : (items rest : List Item) (c : Counts) → rest ≡ [] → Counting c rest items → AreCounted c items
counting_over items rest c none h = record {
  functions = (let e : c.functions ≡ c.functions + length (functions_of []) = omega arith in e) ∙ sym (ap (λ r. c.functions + length (functions_of r)) none) ∙ h.functions;
  plain = (let e : c.plain ≡ c.plain + globals_of false [] = omega arith in e) ∙ sym (ap (λ r. c.plain + globals_of false r) none) ∙ h.plain;
  replicated = (let e : c.replicated ≡ c.replicated + globals_of true [] = omega arith in e) ∙ sym (ap (λ r. c.replicated + globals_of true r) none) ∙ h.replicated;
}

pub counting_none : (items : List Item) (c : Counts) → c ≡ record { functions = 0; plain = 0; replicated = 0 } → Counting c items items
counting_none items c is = record {
  functions = ap (λ (x : Counts). x.functions + length (functions_of items)) is ∙ (let e : 0 + length (functions_of items) ≡ length (functions_of items) = omega arith in e);
  plain = ap (λ (x : Counts). x.plain + globals_of false items) is ∙ (let e : 0 + globals_of false items ≡ globals_of false items = omega arith in e);
  replicated = ap (λ (x : Counts). x.replicated + globals_of true items) is ∙ (let e : 0 + globals_of true items ≡ globals_of true items = omega arith in e);
}

-- ---- the program

pub program_is :
    (tree : Tree) (items : List Item) (counts : Counts) (main : ℕ) (made : Functions) (functions : List Function) → items ≡ tree.items → AreCounted counts items →
    main ≡ main_of (functions_of items) →
    made ≡ with_items (entries_from 0 0 0 items) 0 items (record { written = []; bodies = []; next = counts.functions }) → functions ≡ made.written ++ made.bodies →
    (let all : Parts = record { functions = functions; main = main; globals = counts.plain; replicated = counts.replicated } in all) ≡ lower tree
unfolding with_items
program_is tree items counts main made functions is_items counted is_main is_made is_functions =
    let entries = entries_from 0 0 0 items in
    let none : Functions = record { written = []; bodies = []; next = counts.functions } in
    let from = λ (n : ℕ). lowered_from (entries_from 0 0 0 items) 0 n items in
    let written = ap (λ (f : Functions). f.written) is_made ∙ written_are entries 0 items none ∙ ap (λ (n : ℕ). map (λ (x : Lowered). x.function) (from n)) counted.functions in
    let bodies = ap (λ (f : Functions). f.bodies) is_made ∙ bodies_are entries 0 items none ∙ ap (λ (n : ℕ). flat_map (λ (x : Lowered). x.bodies) (from n)) counted.functions in
    let all = is_functions ∙ (λ i. written i ++ bodies i) in
    (λ i. record { functions = all i; main = is_main i; globals = counted.plain i; replicated = counted.replicated i })
    ∙ ap (λ is. lower (record tree { items = is })) is_items
