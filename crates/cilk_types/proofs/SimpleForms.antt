-- The first fault in each form of statement that has no statement in it, and what is known behind it.
use Rattle.std.proofs.Common.{◌≡◌, ℕ, Bool, not, List, Option, None, refl}
use Rattle.std.specs.Prelude.{nat_lt}
use Rattle.word_ops.specs.declared.place.Pos.{Pos}
use Rattle.cilk_ast.specs.declared.fault.FaultKind.TheVariants as fault
use Rattle.cilk_ast.specs.declared.kind.Kind.{Kind}
use Rattle.cilk_ast.specs.declared.tree.TSpawn.{TSpawn}
use Rattle.cilk_ast.specs.declared.tree.TValue.{TValue}
use Rattle.cilk_ast.specs.declared.tree.TExpr.{TExpr}
use Rattle.cilk_ast.specs.declared.tree.TStmt as code
use Rattle.cilk_ast.specs.declared.tree.TStmt.{TStmt}
use Rattle.cilk_model.specs.FirstFault.{broken_if, earlier, first_fault}
use Rattle.cilk_model.specs.Scopes.{Scopes, names_in, is_twice, declared}
use Rattle.cilk_model.specs.Sorts.{is_value, judged, kind_of}
use Rattle.cilk_model.specs.ExpressionBreaks.{misfit, faults_of}
use Rattle.cilk_model.specs.StatementBreaks.{side_faults, target_faults, value_faults, initial_faults, added_misfit, return_faults}
use Rattle.cilk_types.specs.declared.judgement.Want.TheVariants as want
use Rattle.cilk_types.specs.Judging.{judgement, wrong_with}
use Rattle.cilk_types.specs.Values.{of_spawn, side_fault, value_fault, initial_fault, target_fault, added_fault, return_fault}
use Rattle.cilk_types.specs.Walking.{fault_in, left_by}
use Rattle.cilk_types.proofs.StatementForms.{first_two, first_three}
use Rattle.cilk_types.proofs.ValueLemmas.{expression_fault, spawn_fault_is, side_is, value_is, initial_is, target_is, added_is, return_is}

pub local_fault : (gives : Kind) (at : Pos) (kind : Kind) (name : List ℕ) (value : Option TValue) (scopes : Scopes) (inside : Bool) →
    fault_in gives (code.Local at kind name value) scopes inside
    ≡ earlier (first_fault (broken_if (is_twice name scopes.around) fault.Twice at)) (initial_fault (names_in scopes) kind value)
unfolding fault_in
local_fault gives at kind name value scopes inside =
    first_two (broken_if (is_twice name scopes.around) fault.Twice at) (initial_faults (names_in scopes) kind value) _ _ refl
    (initial_is (names_in scopes) kind value)

pub local_left : (at : Pos) (kind : Kind) (name : List ℕ) (value : Option TValue) (scopes : Scopes) →
    left_by (code.Local at kind name value) scopes ≡ declared name kind scopes
unfolding left_by
local_left at kind name value scopes = refl

pub empty_fault : (gives : Kind) (scopes : Scopes) (inside : Bool) → fault_in gives code.Empty scopes inside ≡ None
unfolding fault_in
empty_fault gives scopes inside = refl

pub eval_fault : (gives : Kind) (e : TExpr) (scopes : Scopes) (inside : Bool) →
    fault_in gives (code.Eval e) scopes inside ≡ (judgement (names_in scopes) e).fault
unfolding fault_in
eval_fault gives e scopes inside = expression_fault (names_in scopes) e

pub assign_fault : (gives : Kind) (at : Pos) (left : TExpr) (value : TValue) (scopes : Scopes) (inside : Bool) →
    fault_in gives (code.Assign at left value) scopes inside
    ≡ earlier (earlier (side_fault scopes left) (target_fault (names_in scopes) left value))
    (value_fault (names_in scopes) (judgement (names_in scopes) left).kind value)
unfolding fault_in judgement
assign_fault gives at left value scopes inside =
    let names = names_in scopes in
    first_three (side_faults scopes left) (target_faults names left value) (value_faults names (kind_of names left) value) _ _ _
    (side_is scopes left) (target_is names left value) (value_is names (kind_of names left) value)

pub add_fault : (gives : Kind) (at : Pos) (left value : TExpr) (scopes : Scopes) (inside : Bool) →
    fault_in gives (code.AddTo at left value) scopes inside
    ≡ earlier (earlier (side_fault scopes left) (judgement (names_in scopes) value).fault)
    (added_fault (judgement (names_in scopes) left).kind (judgement (names_in scopes) value))
unfolding fault_in judgement
add_fault gives at left value scopes inside =
    let names = names_in scopes in
    first_three (side_faults scopes left) (faults_of names value) (added_misfit (kind_of names left) (judged names value)) _ _ _
    (side_is scopes left) refl (added_is names (kind_of names left) value)

pub up_fault : (gives : Kind) (left : TExpr) (scopes : Scopes) (inside : Bool) →
    fault_in gives (code.Up left) scopes inside ≡ earlier (side_fault scopes left) (wrong_with want.Value (judgement (names_in scopes) left))
unfolding fault_in judgement
up_fault gives left scopes inside =
    first_two (side_faults scopes left) (misfit is_value (judged (names_in scopes) left)) _ _ (side_is scopes left) refl

pub down_fault : (gives : Kind) (left : TExpr) (scopes : Scopes) (inside : Bool) →
    fault_in gives (code.Down left) scopes inside ≡ earlier (side_fault scopes left) (wrong_with want.Value (judgement (names_in scopes) left))
unfolding fault_in judgement
down_fault gives left scopes inside =
    first_two (side_faults scopes left) (misfit is_value (judged (names_in scopes) left)) _ _ (side_is scopes left) refl

pub spawn_fault : (gives : Kind) (s : TSpawn) (scopes : Scopes) (inside : Bool) →
    fault_in gives (code.Spawn s) scopes inside ≡ (of_spawn (names_in scopes) s).fault
unfolding fault_in
spawn_fault gives s scopes inside = spawn_fault_is (names_in scopes) s

pub break_fault : (gives : Kind) (at : Pos) (scopes : Scopes) (inside : Bool) →
    fault_in gives (code.Break at) scopes inside ≡ first_fault (broken_if (not inside) fault.Escapes at)
unfolding fault_in
break_fault gives at scopes inside = refl

pub continue_fault : (gives : Kind) (at : Pos) (scopes : Scopes) (inside : Bool) →
    fault_in gives (code.Continue at) scopes inside ≡ first_fault (broken_if (not inside) fault.Escapes at)
unfolding fault_in
continue_fault gives at scopes inside = refl

pub return_statement_fault : (gives : Kind) (at : Pos) (value : Option TExpr) (scopes : Scopes) (inside : Bool) →
    fault_in gives (code.Return at value) scopes inside
    ≡ earlier (return_fault (names_in scopes) gives at value) (first_fault (broken_if (nat_lt 0 scopes.level) fault.Escapes at))
unfolding fault_in
return_statement_fault gives at value scopes inside =
    first_two (return_faults (names_in scopes) gives at value) (broken_if (nat_lt 0 scopes.level) fault.Escapes at) _ _
    (return_is (names_in scopes) gives at value) refl

pub sync_fault : (gives : Kind) (scopes : Scopes) (inside : Bool) → fault_in gives code.Sync scopes inside ≡ None
unfolding fault_in
sync_fault gives scopes inside = refl

-- nothing that they declare is known behind them
pub empty_left : (scopes : Scopes) → left_by code.Empty scopes ≡ scopes
unfolding left_by
empty_left scopes = refl

pub eval_left : (e : TExpr) (scopes : Scopes) → left_by (code.Eval e) scopes ≡ scopes
unfolding left_by
eval_left e scopes = refl

pub assign_left : (at : Pos) (left : TExpr) (value : TValue) (scopes : Scopes) → left_by (code.Assign at left value) scopes ≡ scopes
unfolding left_by
assign_left at left value scopes = refl

pub add_left : (at : Pos) (left value : TExpr) (scopes : Scopes) → left_by (code.AddTo at left value) scopes ≡ scopes
unfolding left_by
add_left at left value scopes = refl

pub up_left : (left : TExpr) (scopes : Scopes) → left_by (code.Up left) scopes ≡ scopes
unfolding left_by
up_left left scopes = refl

pub down_left : (left : TExpr) (scopes : Scopes) → left_by (code.Down left) scopes ≡ scopes
unfolding left_by
down_left left scopes = refl

pub spawn_left : (s : TSpawn) (scopes : Scopes) → left_by (code.Spawn s) scopes ≡ scopes
unfolding left_by
spawn_left s scopes = refl

pub break_left : (at : Pos) (scopes : Scopes) → left_by (code.Break at) scopes ≡ scopes
unfolding left_by
break_left at scopes = refl

pub continue_left : (at : Pos) (scopes : Scopes) → left_by (code.Continue at) scopes ≡ scopes
unfolding left_by
continue_left at scopes = refl

pub return_left : (at : Pos) (value : Option TExpr) (scopes : Scopes) → left_by (code.Return at value) scopes ≡ scopes
unfolding left_by
return_left at value scopes = refl

pub sync_left : (scopes : Scopes) → left_by code.Sync scopes ≡ scopes
unfolding left_by
sync_left scopes = refl

pub ruleset simple_forms =
    (local_fault, local_left, empty_fault, eval_fault, assign_fault, add_fault, up_fault, down_fault, spawn_fault, break_fault, continue_fault, return_statement_fault, sync_fault, empty_left, eval_left, assign_left, add_left, up_left, down_left, spawn_left, break_left, continue_left, return_left, sync_left)
