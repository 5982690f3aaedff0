-- Statements, one after the other.
use Rattle.std.proofs.Common.{◌≡◌, ◌∙◌, ap, sym, ℕ, suc, Bool, List, [], drop, Option, Some}
use Rattle.std.specs.List.{slice_get}
use Rattle.cilk_ast.specs.declared.fault.TextFault.{TextFault}
use Rattle.cilk_ast.specs.declared.kind.Kind.{Kind}
use Rattle.cilk_ast.specs.declared.tree.TStmt.{TStmt}
use Rattle.cilk_model.specs.FirstFault.{earlier}
use Rattle.cilk_model.specs.Scopes.{Scopes}
use Rattle.cilk_types.specs.Walking.{fault_in, left_by, fault_in_list, left_by_list}
use Rattle.cilk_types.proofs.FaultOrder.{earlier_none, earlier_assoc}
use Rattle.cilk_types.proofs.ArgumentLemmas.{drop_item}
use Rattle.cilk_types.proofs.StatementForms.{next_fault, next_left, none_fault, none_left}

-- one statement more
pub list_next :
    (gives : Kind) (inside : Bool) (body : List TStmt) (i j : ℕ) (s : TStmt) (before now : Scopes) (fault worst new all : Option TextFault) →
    j ≡ suc i → slice_get body i ≡ Some s → fault ≡ fault_in gives s before inside → now ≡ left_by s before → new ≡ earlier worst fault →
    earlier worst (fault_in_list gives (drop i body) before inside) ≡ all →
    earlier new (fault_in_list gives (drop j body) now inside) ≡ all
list_next gives inside body i j s before now fault worst new all next item is_fault is_now is_new h =
    ap (λ n. earlier new (fault_in_list gives (drop n body) now inside)) next
    ∙ ap (λ x. earlier new (fault_in_list gives (drop (suc i) body) x inside)) is_now
    ∙ ap (λ f. earlier f (fault_in_list gives (drop (suc i) body) (left_by s before) inside)) (is_new ∙ ap (earlier worst) is_fault)
    ∙ earlier_assoc worst (fault_in gives s before inside) (fault_in_list gives (drop (suc i) body) (left_by s before) inside)
    ∙ ap (earlier worst)
    (sym
    (ap (λ rest. fault_in_list gives rest before inside) (drop_item body i s item) ∙ next_fault gives s (drop (suc i) body) before inside))
    ∙ h

pub left_next :
    (body : List TStmt) (i j : ℕ) (s : TStmt) (before now all : Scopes) → j ≡ suc i → slice_get body i ≡ Some s → now ≡ left_by s before →
    left_by_list (drop i body) before ≡ all → left_by_list (drop j body) now ≡ all
left_next body i j s before now all next item is_now h =
    ap (λ n. left_by_list (drop n body) now) next ∙ ap (left_by_list (drop (suc i) body)) is_now
    ∙ sym (ap (λ rest. left_by_list rest before) (drop_item body i s item) ∙ next_left s (drop (suc i) body) before) ∙ h

-- no statement is left
pub list_over : (gives : Kind) (inside : Bool) (rest : List TStmt) (scopes : Scopes) (worst all : Option TextFault) → rest ≡ [] →
    earlier worst (fault_in_list gives rest scopes inside) ≡ all → worst ≡ all
list_over gives inside rest scopes worst all none h =
    sym (ap (λ r. earlier worst (fault_in_list gives r scopes inside)) none ∙ ap (earlier worst) (none_fault gives scopes inside) ∙ earlier_none worst) ∙ h

pub left_over : (rest : List TStmt) (scopes all : Scopes) → rest ≡ [] → left_by_list rest scopes ≡ all → scopes ≡ all
left_over rest scopes all none h = sym (ap (λ r. left_by_list r scopes) none ∙ none_left scopes) ∙ h
