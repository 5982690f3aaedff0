-- The first fault in each part of a statement.
use Rattle.std.proofs.Common.{◌≡◌, ◌∙◌, ap, Bool, not, if◌then◌else◌, ◌++◌, map, append_assoc, Option, Some, None, refl}
use Rattle.word_ops.specs.declared.place.Pos.{Pos}
use Rattle.cilk_ast.specs.declared.fault.FaultKind.TheVariants as fault
use Rattle.cilk_ast.specs.declared.kind.Kind.{Kind}
use Rattle.cilk_ast.specs.declared.kind.Kind.TheVariants as sort
use Rattle.cilk_ast.specs.declared.tree.TSpawn.{TSpawn}
use Rattle.cilk_ast.specs.declared.tree.TValue.{TValue}
use Rattle.cilk_ast.specs.declared.tree.TValue.TheVariants.{Plain, Spawned}
use Rattle.cilk_ast.specs.declared.tree.TExpr.{TExpr}
use Rattle.cilk_model.specs.FirstFault.{broken, broken_if, earlier, first_fault}
use Rattle.cilk_model.specs.Scopes.{Names, Scopes, names_in}
use Rattle.cilk_model.specs.Sorts.{is_word, is_value, begins_at, judged, is_hint, call_kind, spawn_kind}
use Rattle.cilk_model.specs.ExpressionBreaks.{misfit, unfit, faults_of, part_faults, hint_faults, call_faults, list_faults, spawn_faults}
use Rattle.cilk_model.specs.StatementBreaks.{is_place, is_outer, side_faults, given_misfit, brings_other, value_faults, initial_faults, target_faults, added_misfit, return_faults, test_faults}
use Rattle.cilk_types.specs.declared.judgement.Want.TheVariants as want
use Rattle.cilk_types.specs.Judging.{judgement}
use Rattle.cilk_types.specs.Values.{part_fault, test_fault, hint_fault, hint_holds, of_spawn, side_fault, given_fault, value_fault, initial_fault, target_fault, added_fault, return_fault}
use Rattle.cilk_types.proofs.FaultOrder.{first_fault_append}
use Rattle.cilk_types.proofs.Judgements.{of_parts}
use Rattle.cilk_types.proofs.Calls.{call_fault_is, call_kind_is}

pub expression_fault : (names : Names) (e : TExpr) → first_fault (faults_of names e) ≡ (judgement names e).fault
unfolding judgement
expression_fault names e = refl

pub part_value : (names : Names) (e : TExpr) → first_fault (part_faults names is_value e) ≡ part_fault names want.Value e
unfolding judgement
part_value names e = first_fault_append (faults_of names e) (misfit is_value (judged names e))

pub part_word : (names : Names) (e : TExpr) → first_fault (part_faults names is_word e) ≡ part_fault names want.Word e
unfolding judgement
part_word names e = first_fault_append (faults_of names e) (misfit is_word (judged names e))

pub test_is : (names : Names) (test : Option TExpr) → first_fault (test_faults names test) ≡ test_fault names test
test_is names None = refl
test_is names (Some e) = part_value names e

hint_is : (names : Names) (hint : Option TExpr) → first_fault (hint_faults names hint) ≡ hint_fault names hint
unfolding judgement
hint_is names None = refl
hint_is names (Some e) = first_fault_append (faults_of names e) (unfit sort.Ptr (judged names e))

holds_is : (names : Names) (hint : Option TExpr) → is_hint names hint ≡ hint_holds names hint
unfolding judgement
holds_is names None = refl
holds_is names (Some e) = refl

pub spawn_fault_is : (names : Names) (s : TSpawn) → first_fault (spawn_faults names s) ≡ (of_spawn names s).fault
spawn_fault_is names s =
    let hint = hint_faults names s.hint in
    let call = call_faults s.name_pos (names s.name) (map (judged names) s.args) in
    ap first_fault (append_assoc hint call (list_faults names s.args)) ∙ first_fault_append hint (call ++ list_faults names s.args)
    ∙ ap (λ f. earlier f (first_fault (call ++ list_faults names s.args))) (hint_is names s.hint)
    ∙ ap (earlier (hint_fault names s.hint)) (call_fault_is names s.name_pos (names s.name) s.args)

pub spawn_kind_is : (names : Names) (s : TSpawn) → spawn_kind names s ≡ (of_spawn names s).kind
spawn_kind_is names s =
    ap (λ (b : Bool). if b then call_kind (names s.name) (map (judged names) s.args) else None) (holds_is names s.hint)
    ∙ ap (λ k. if hint_holds names s.hint then k else None) (call_kind_is names s.name_pos (names s.name) s.args)

pub side_is : (scopes : Scopes) (left : TExpr) → first_fault (side_faults scopes left) ≡ side_fault scopes left
unfolding judgement
side_is scopes left =
    of_parts (faults_of (names_in scopes) left) (broken_if (not (is_place left)) fault.NotAPlace (begins_at left))
    (broken_if (is_outer scopes left) fault.AssignsOuter (begins_at left))

given_is : (names : Names) (kind : Option Kind) (e : TExpr) → first_fault (given_misfit kind (judged names e)) ≡ given_fault kind (judgement names e)
unfolding judgement
given_is names None e = refl
given_is names (Some kind) e = refl

pub value_is : (names : Names) (kind : Option Kind) (value : TValue) → first_fault (value_faults names kind value) ≡ value_fault names kind value
value_is names kind (Plain e) =
    first_fault_append (faults_of names e) (given_misfit kind (judged names e))
    ∙ ap (λ f. earlier f (first_fault (given_misfit kind (judged names e)))) (expression_fault names e)
    ∙ ap (earlier (judgement names e).fault) (given_is names kind e)
value_is names kind (Spawned s) =
    first_fault_append (spawn_faults names s) (brings_other kind (spawn_kind names s) s.pos)
    ∙ ap (λ f. earlier f (first_fault (brings_other kind (spawn_kind names s) s.pos))) (spawn_fault_is names s)
    ∙ ap (λ k. earlier (of_spawn names s).fault (first_fault (brings_other kind k s.pos))) (spawn_kind_is names s)

pub initial_is : (names : Names) (kind : Kind) (value : Option TValue) → first_fault (initial_faults names kind value) ≡ initial_fault names kind value
initial_is names kind None = refl
initial_is names kind (Some value) = value_is names (Some kind) value

pub target_is : (names : Names) (left : TExpr) (value : TValue) → first_fault (target_faults names left value) ≡ target_fault names left value
unfolding judgement
target_is names left (Plain e) = refl
target_is names left (Spawned s) = refl

pub added_is : (names : Names) (kind : Option Kind) (e : TExpr) → first_fault (added_misfit kind (judged names e)) ≡ added_fault kind (judgement names e)
unfolding judgement
added_is names None e = refl
added_is names (Some kind) e = refl

pub return_is : (names : Names) (gives : Kind) (at : Pos) (value : Option TExpr) → first_fault (return_faults names gives at value) ≡ return_fault names gives at value
unfolding judgement
return_is names sort.Long at None = refl
return_is names sort.Ptr at None = refl
return_is names sort.Void at None = refl
return_is names sort.Int at None = refl
return_is names sort.Void at (Some e) = first_fault_append (broken fault.WrongType at) (faults_of names e)
return_is names sort.Long at (Some e) = first_fault_append (faults_of names e) (unfit sort.Long (judged names e))
return_is names sort.Ptr at (Some e) = first_fault_append (faults_of names e) (unfit sort.Ptr (judged names e))
return_is names sort.Int at (Some e) = first_fault_append (faults_of names e) (unfit sort.Long (judged names e))
