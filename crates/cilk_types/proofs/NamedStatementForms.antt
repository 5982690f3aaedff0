-- The locals that each form of statement names, from those that its parts name.
use Rattle.std.proofs.Common.{◌≡◌, ◌∙◌, ap, sym, ℕ, suc, List, [], ◌∷◌, ◌++◌, drop, append_assoc, append-nil, refl, Option, Some, None}
use Rattle.std.specs.List.{slice_get}
use Rattle.word_ops.specs.declared.place.Pos.{Pos}
use Rattle.cilk_ast.specs.declared.kind.Kind.{Kind}
use Rattle.cilk_ast.specs.declared.tree.TSpawn.{TSpawn}
use Rattle.cilk_ast.specs.declared.tree.TValue.{TValue}
use Rattle.cilk_ast.specs.declared.tree.TValue.TheVariants.{Plain, Spawned}
use Rattle.cilk_ast.specs.declared.tree.TExpr.{TExpr}
use Rattle.cilk_ast.specs.declared.tree.TStmt as code
use Rattle.cilk_ast.specs.declared.tree.TStmt.TheBlock.{shape-the_row-TStmt-0, hidden-the_row-TStmt-0}
use Rattle.cilk_ast.specs.declared.tree.TStmt.{TStmt}
use Rattle.cilk_ast.specs.TreeStatement.{part_of}
use Rattle.cilk_ast.proofs.TreeStatementForms.{if_form, for_form, while_form, cilk_for_form}
use Rattle.cilk_model.specs.Copies.{named_by, named_by_option, named_by_spawn, named_by_value, named_by_initial, named_in, named_in_part, named_in_all}
use Rattle.cilk_model.specs.Locals.{in_body, after, after_part}
use Rattle.cilk_model.specs.Scopes.{Names, Scopes, names_in, opened}
use Rattle.cilk_types.specs.Named.{named_of, named_of_list, named_of_option, named_of_spawn, named_of_value, named_of_initial, named_within, named_within_part, named_in_list, named_within_list}
use Rattle.cilk_types.specs.Walking.{left_by, left_by_part}
use Rattle.cilk_types.proofs.ArgumentLemmas.{drop_item}
use Rattle.cilk_types.proofs.ControlForms.{if_left, while_left, for_left, cilk_for_left}
use Rattle.cilk_types.proofs.SimpleForms.{local_left, empty_left, eval_left, assign_left, add_left, up_left, down_left, spawn_left, break_left, continue_left, return_left, sync_left}
use Rattle.cilk_types.proofs.StatementForms.{block_left, part_left_is}
use denote.Hole.Carrier.{hidden}

-- ---- the parts of statements

option_is : (names : Names) (e : Option TExpr) → named_by_option names e ≡ named_of_option names e
unfolding named_of
option_is names None = refl
option_is names (Some e) = refl

spawn_is : (names : Names) (spawn : TSpawn) → named_by_spawn names spawn ≡ named_of_spawn names spawn
unfolding named_of_list
spawn_is names spawn = ap (λ ns. ns ++ named_of_list names spawn.args) (option_is names spawn.hint)

value_is : (names : Names) (value : TValue) → named_by_value names value ≡ named_of_value names value
unfolding named_of
value_is names (Plain e) = refl
value_is names (Spawned spawn) = spawn_is names spawn

initial_is : (names : Names) (value : Option TValue) → named_by_initial names value ≡ named_of_initial names value
initial_is names None = refl
initial_is names (Some value) = value_is names value

part_is : (part : Option TStmt) (scopes : Scopes) → named_in_part (part_of part) scopes ≡ named_within_part part scopes
unfolding named_within
part_is None scopes = refl
part_is (Some s) scopes = refl

list_is : (body : List TStmt) (scopes : Scopes) → named_in_all (hidden-the_row-TStmt-0 body) scopes ≡ named_in_list body scopes
unfolding shape-the_row-TStmt-0 hidden-the_row-TStmt-0 hidden
list_is [] scopes = refl
list_is (s ∷ body) scopes = ap (λ ns. named_in s scopes ++ ns) (list_is body (after s scopes))

-- ---- statements that have none in them

pub local_named : (at : Pos) (kind : Kind) (name : List ℕ) (value : Option TValue) (scopes : Scopes) →
    named_within (code.Local at kind name value) scopes ≡ named_of_initial (names_in scopes) value
unfolding named_within
local_named at kind name value scopes = initial_is (names_in scopes) value

pub eval_named : (e : TExpr) (scopes : Scopes) → named_within (code.Eval e) scopes ≡ named_of (names_in scopes) e
unfolding named_within named_of
eval_named e scopes = refl

pub assign_named : (at : Pos) (left : TExpr) (value : TValue) (scopes : Scopes) →
    named_within (code.Assign at left value) scopes ≡ named_of (names_in scopes) left ++ named_of_value (names_in scopes) value
unfolding named_within named_of
assign_named at left value scopes = ap (λ ns. named_of (names_in scopes) left ++ ns) (value_is (names_in scopes) value)

pub add_named : (at : Pos) (left value : TExpr) (scopes : Scopes) →
    named_within (code.AddTo at left value) scopes ≡ named_of (names_in scopes) left ++ named_of (names_in scopes) value
unfolding named_within named_of
add_named at left value scopes = refl

pub up_named : (left : TExpr) (scopes : Scopes) → named_within (code.Up left) scopes ≡ named_of (names_in scopes) left
unfolding named_within named_of
up_named left scopes = refl

pub down_named : (left : TExpr) (scopes : Scopes) → named_within (code.Down left) scopes ≡ named_of (names_in scopes) left
unfolding named_within named_of
down_named left scopes = refl

pub spawn_named : (spawn : TSpawn) (scopes : Scopes) → named_within (code.Spawn spawn) scopes ≡ named_of_spawn (names_in scopes) spawn
unfolding named_within
spawn_named spawn scopes = spawn_is (names_in scopes) spawn

pub return_named : (at : Pos) (value : Option TExpr) (scopes : Scopes) →
    named_within (code.Return at value) scopes ≡ named_of_option (names_in scopes) value
unfolding named_within
return_named at value scopes = option_is (names_in scopes) value

pub empty_named : (scopes : Scopes) → named_within code.Empty scopes ≡ []
unfolding named_within
empty_named scopes = refl

pub break_named : (at : Pos) (scopes : Scopes) → named_within (code.Break at) scopes ≡ []
unfolding named_within
break_named at scopes = refl

pub continue_named : (at : Pos) (scopes : Scopes) → named_within (code.Continue at) scopes ≡ []
unfolding named_within
continue_named at scopes = refl

pub sync_named : (scopes : Scopes) → named_within code.Sync scopes ≡ []
unfolding named_within
sync_named scopes = refl

-- ---- statements that have some in them

pub block_named : (body : List TStmt) (scopes : Scopes) → named_within (code.Block body) scopes ≡ named_within_list body (opened scopes)
unfolding named_within named_within_list
block_named body scopes = list_is body (opened scopes)

pub if_named : (test : TExpr) (yes_ : TStmt) (no_ : Option TStmt) (scopes : Scopes) →
    named_within (code.If test yes_ no_) scopes
    ≡ named_of (names_in scopes) test ++ named_within yes_ scopes ++ named_within_part no_ (left_by yes_ scopes)
unfolding named_within named_of left_by
if_named test yes_ no_ scopes =
    ap (λ s. named_in s scopes) (if_form test yes_ no_)
    ∙ ap (λ ns. named_by (names_in scopes) test ++ named_in yes_ scopes ++ ns) (part_is no_ (after yes_ scopes))

pub while_named : (test : TExpr) (body : TStmt) (scopes : Scopes) →
    named_within (code.While test body) scopes ≡ named_of (names_in scopes) test ++ named_within body scopes
unfolding named_within named_of
while_named test body scopes = ap (λ s. named_in s scopes) (while_form test body)

-- a `for` whose initial part leaves these scopes, and its step those
for_parts : (init : Option TStmt) (test : Option TExpr) (step : Option TStmt) (body : TStmt) (scopes begun stepped : Scopes) → List ℕ
for_parts init test step body scopes begun stepped =
    named_within_part init (opened scopes) ++ named_of_option (names_in begun) test ++ named_within_part step begun ++ named_within body stepped

for_so : (init : Option TStmt) (test : Option TExpr) (step : Option TStmt) (body : TStmt) (scopes : Scopes) →
    let begun = after_part (part_of init) (opened scopes) in
    named_within (code.For init test step body) scopes ≡ for_parts init test step body scopes begun (after_part (part_of step) begun)
unfolding named_within for_parts
for_so init test step body scopes =
    let begun = after_part (part_of init) (opened scopes) in
    let stepped = after_part (part_of step) begun in
    ap (λ s. named_in s scopes) (for_form init test step body)
    ∙ (λ i. part_is init (opened scopes) i ++ option_is (names_in begun) test i ++ part_is step begun i ++ named_in body stepped)

pub for_named : (init : Option TStmt) (test : Option TExpr) (step : Option TStmt) (body : TStmt) (scopes : Scopes) →
    let begun = left_by_part init (opened scopes) in
    named_within (code.For init test step body) scopes
    ≡ named_within_part init (opened scopes) ++ named_of_option (names_in begun) test ++ named_within_part step begun
    ++ named_within body (left_by_part step begun)
unfolding for_parts
for_named init test step body scopes =
    for_so init test step body scopes
    ∙ ap (λ begun. for_parts init test step body scopes begun (after_part (part_of step) begun)) (part_left_is init (opened scopes))
    ∙ ap (for_parts init test step body scopes (left_by_part init (opened scopes))) (part_left_is step (left_by_part init (opened scopes)))

pub cilk_for_named :
    (at : Pos) (name : List ℕ) (low : TExpr) (second : Pos × List ℕ) (high : TExpr) (third : Pos × List ℕ) (body : TStmt) (scopes : Scopes) →
    named_within (code.CilkFor at name low second high third body) scopes
    ≡ named_of (names_in scopes) low ++ named_of (names_in scopes) high ++ named_within body (in_body name scopes)
unfolding named_within named_of
cilk_for_named at name low second high third body scopes =
    ap (λ s. named_in s scopes) (cilk_for_form at name low second high third body)

pub ruleset named_statement_forms =
    (local_named, eval_named, assign_named, add_named, up_named, down_named, spawn_named, return_named, empty_named, break_named, continue_named, sync_named, block_named, if_named, while_named, for_named, cilk_for_named, block_left, if_left, while_left, for_left, cilk_for_left, local_left, empty_left, eval_left, assign_left, add_left, up_left, down_left, spawn_left, break_left, continue_left, return_left, sync_left, append-nil, append_assoc)

-- ---- statements one after the other

pub next_named : (s : TStmt) (rest : List TStmt) (scopes : Scopes) →
    named_within_list (s ∷ rest) scopes ≡ named_within s scopes ++ named_within_list rest (left_by s scopes)
unfolding named_within named_within_list left_by
next_named s rest scopes = refl

pub list_named_next :
    (body : List TStmt) (i j : ℕ) (s : TStmt) (before now : Scopes) (old new all : List ℕ) → j ≡ suc i → slice_get body i ≡ Some s →
    new ≡ old ++ named_within s before → now ≡ left_by s before → old ++ named_within_list (drop i body) before ≡ all →
    new ++ named_within_list (drop j body) now ≡ all
list_named_next body i j s before now old new all next item is_new is_now h =
    ap (λ n. new ++ named_within_list (drop n body) now) next
    ∙ ap (λ x. new ++ named_within_list (drop (suc i) body) x) is_now
    ∙ ap (λ ns. ns ++ named_within_list (drop (suc i) body) (left_by s before)) is_new
    ∙ append_assoc old (named_within s before) (named_within_list (drop (suc i) body) (left_by s before))
    ∙ ap (λ ns. old ++ ns)
    (sym (ap (λ rest. named_within_list rest before) (drop_item body i s item) ∙ next_named s (drop (suc i) body) before))
    ∙ h

pub list_named_over : (rest : List TStmt) (scopes : Scopes) (old all : List ℕ) → rest ≡ [] → old ++ named_within_list rest scopes ≡ all → old ≡ all
unfolding named_within_list
list_named_over rest scopes old all none h = sym (ap (λ r. old ++ named_within_list r scopes) none ∙ append-nil old) ∙ h

-- ---- an `if` and a `for`, part by part

three_parts : (old a b c : List ℕ) → ((old ++ a) ++ b) ++ c ≡ old ++ ((a ++ b) ++ c)
three_parts old a b c = simp append_assoc

four_parts : (old a b c d : List ℕ) → (((old ++ a) ++ b) ++ c) ++ d ≡ old ++ (((a ++ b) ++ c) ++ d)
four_parts old a b c d = simp append_assoc

pub if_added :
    (s : TStmt) (test : TExpr) (yes_ again : TStmt) (no_ : Option TStmt) (scopes between : Scopes) (old one two three : List ℕ) →
    s ≡ code.If test yes_ no_ → again ≡ yes_ → one ≡ old ++ named_of (names_in scopes) test → two ≡ one ++ named_within again scopes →
    between ≡ left_by again scopes → three ≡ two ++ named_within_part no_ between → three ≡ old ++ named_within s scopes
if_added s test yes_ again no_ scopes between old one two three is same e d b c =
    cc (if_named test yes_ no_ scopes, three_parts old (named_of (names_in scopes) test) (named_within yes_ scopes) (named_within_part no_ (left_by yes_ scopes)))

pub for_added :
    (s : TStmt) (init : Option TStmt) (test : Option TExpr) (step : Option TStmt) (body again : TStmt) (scopes inner begun stepped : Scopes)
    (old one two three four : List ℕ) → s ≡ code.For init test step body → inner ≡ opened scopes → one ≡ old ++ named_within_part init inner →
    begun ≡ left_by_part init inner → two ≡ one ++ named_of_option (names_in begun) test → three ≡ two ++ named_within_part step begun →
    stepped ≡ left_by_part step begun → again ≡ body → four ≡ three ++ named_within again stepped → four ≡ old ++ named_within s scopes
for_added s init test step body again scopes inner begun stepped old one two three four is i e b d c p same f =
    let started = left_by_part init (opened scopes) in
    cc
    (for_named init test step body scopes, four_parts old (named_within_part init (opened scopes)) (named_of_option (names_in started) test) (named_within_part step started) (named_within body (left_by_part step started)))
