-- The places of locals, by the forms of statements.
use Rattle.std.proofs.Common.{◌≡◌, ◌∙◌, ap, sym, ℕ, suc, List, [], ◌∷◌, ◌++◌, drop, append_assoc, append-nil, Option, Some, None, refl}
use Rattle.std.specs.List.{slice_get}
use Rattle.word_ops.specs.declared.place.Pos.{Pos}
use Rattle.cilk_ast.specs.declared.kind.Kind.{Kind}
use Rattle.cilk_ast.specs.declared.tree.TSpawn.{TSpawn}
use Rattle.cilk_ast.specs.declared.tree.TValue.{TValue}
use Rattle.cilk_ast.specs.declared.tree.TExpr.{TExpr}
use Rattle.cilk_ast.specs.declared.tree.TStmt as code
use Rattle.cilk_ast.specs.declared.tree.TStmt.TheBlock.{shape-the_row-TStmt-0, hidden-the_row-TStmt-0}
use Rattle.cilk_ast.specs.declared.tree.TStmt.{TStmt}
use Rattle.cilk_ast.specs.TreeStatement.{part_of}
use Rattle.cilk_ast.proofs.TreeStatementForms.{if_form, for_form, while_form, cilk_for_form}
use Rattle.cilk_model.specs.Locals.{locals_of, locals_of_part, locals_of_all}
use Rattle.cilk_types.specs.Places.{places_in, places_in_part, all_places, places_in_list}
use Rattle.cilk_types.proofs.ArgumentLemmas.{drop_item}
use denote.Hole.Carrier.{hidden}

list_places : (body : List TStmt) → locals_of_all (hidden-the_row-TStmt-0 body) ≡ all_places body
unfolding shape-the_row-TStmt-0 hidden-the_row-TStmt-0 hidden
list_places [] = refl
list_places (s ∷ body) = ap (λ ps. locals_of s ++ ps) (list_places body)

part_places : (part : Option TStmt) → locals_of_part (part_of part) ≡ places_in_part part
unfolding places_in
part_places None = refl
part_places (Some s) = refl

pub block_places : (body : List TStmt) → places_in (code.Block body) ≡ places_in_list body
unfolding places_in places_in_list
block_places body = list_places body

pub local_places : (at : Pos) (kind : Kind) (name : List ℕ) (value : Option TValue) → places_in (code.Local at kind name value) ≡ at ∷ []
unfolding places_in
local_places at kind name value = refl

pub if_places : (test : TExpr) (yes_ : TStmt) (no_ : Option TStmt) → places_in (code.If test yes_ no_) ≡ places_in yes_ ++ places_in_part no_
unfolding places_in
if_places test yes_ no_ = ap places_in (if_form test yes_ no_) ∙ ap (λ ps. locals_of yes_ ++ ps) (part_places no_)

pub while_places : (test : TExpr) (body : TStmt) → places_in (code.While test body) ≡ places_in body
unfolding places_in
while_places test body = ap places_in (while_form test body)

pub for_places : (init : Option TStmt) (test : Option TExpr) (step : Option TStmt) (body : TStmt) →
    places_in (code.For init test step body) ≡ places_in_part init ++ places_in_part step ++ places_in body
unfolding places_in
for_places init test step body =
    ap places_in (for_form init test step body) ∙ ap (λ ps. ps ++ locals_of_part (part_of step) ++ locals_of body) (part_places init)
    ∙ ap (λ ps. places_in_part init ++ ps ++ locals_of body) (part_places step)

pub cilk_for_places :
    (at : Pos) (name : List ℕ) (low : TExpr) (second : Pos × List ℕ) (high : TExpr) (third : Pos × List ℕ) (body : TStmt) →
    places_in (code.CilkFor at name low second high third body) ≡ at ∷ places_in body
unfolding places_in
cilk_for_places at name low second high third body = ap places_in (cilk_for_form at name low second high third body)

-- the other forms have none
pub empty_places : places_in code.Empty ≡ []
unfolding places_in
empty_places = refl

pub eval_places : (e : TExpr) → places_in (code.Eval e) ≡ []
unfolding places_in
eval_places e = refl

pub assign_places : (at : Pos) (left : TExpr) (value : TValue) → places_in (code.Assign at left value) ≡ []
unfolding places_in
assign_places at left value = refl

pub add_places : (at : Pos) (left value : TExpr) → places_in (code.AddTo at left value) ≡ []
unfolding places_in
add_places at left value = refl

pub up_places : (left : TExpr) → places_in (code.Up left) ≡ []
unfolding places_in
up_places left = refl

pub down_places : (left : TExpr) → places_in (code.Down left) ≡ []
unfolding places_in
down_places left = refl

pub spawn_places : (s : TSpawn) → places_in (code.Spawn s) ≡ []
unfolding places_in
spawn_places s = refl

pub break_places : (at : Pos) → places_in (code.Break at) ≡ []
unfolding places_in
break_places at = refl

pub continue_places : (at : Pos) → places_in (code.Continue at) ≡ []
unfolding places_in
continue_places at = refl

pub return_places : (at : Pos) (value : Option TExpr) → places_in (code.Return at value) ≡ []
unfolding places_in
return_places at value = refl

pub sync_places : places_in code.Sync ≡ []
unfolding places_in
sync_places = refl

-- statements one after the other
pub places_next : (body : List TStmt) (i j : ℕ) (s : TStmt) (old new all : List Pos) → j ≡ suc i → slice_get body i ≡ Some s → new ≡ old ++ places_in s →
    old ++ places_in_list (drop i body) ≡ all → new ++ places_in_list (drop j body) ≡ all
unfolding places_in places_in_list
places_next body i j s old new all next item is_new h =
    ap (λ n. new ++ places_in_list (drop n body)) next ∙ ap (λ ps. ps ++ places_in_list (drop (suc i) body)) is_new
    ∙ append_assoc old (places_in s) (places_in_list (drop (suc i) body)) ∙ ap (λ rest. old ++ places_in_list rest) (sym (drop_item body i s item)) ∙ h

pub places_over : (rest : List TStmt) (old all : List Pos) → rest ≡ [] → old ++ places_in_list rest ≡ all → old ≡ all
unfolding places_in_list
places_over rest old all none h = sym (ap (λ r. old ++ places_in_list r) none ∙ append-nil old) ∙ h

pub ruleset place_forms =
    (block_places, local_places, if_places, while_places, for_places, cilk_for_places, empty_places, eval_places, assign_places, add_places, up_places, down_places, spawn_places, break_places, continue_places, return_places, sync_places, append-nil, append_assoc)

-- the places of a `for`, part by part
pub for_added :
    (s : TStmt) (init : Option TStmt) (test : Option TExpr) (step : Option TStmt) (body again : TStmt) (old one two three : List Pos) →
    s ≡ code.For init test step body → again ≡ body → one ≡ old ++ places_in_part init → two ≡ one ++ places_in_part step →
    three ≡ two ++ places_in again → three ≡ old ++ places_in s
for_added s init test step body again old one two three is same e d c =
    c ∙ ap (λ b. two ++ places_in b) same ∙ ap (λ ps. ps ++ places_in body) (d ∙ ap (λ ps. ps ++ places_in_part step) e)
    ∙ ap (λ ps. ps ++ places_in body) (append_assoc old (places_in_part init) (places_in_part step))
    ∙ append_assoc old (places_in_part init ++ places_in_part step) (places_in body)
    ∙ ap (λ ps. old ++ ps) (sym (ap places_in is ∙ for_places init test step body))
