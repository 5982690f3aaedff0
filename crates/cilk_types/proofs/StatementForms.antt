-- The first fault in each form of statement, and what is known behind it.
use Rattle.std.proofs.Common.{◌≡◌, ◌∙◌, ap, Bool, List, [], ◌∷◌, ◌++◌, Option, Some, None, refl}
use Rattle.cilk_ast.specs.declared.fault.TextFault.{TextFault}
use Rattle.cilk_ast.specs.declared.kind.Kind.{Kind}
use Rattle.cilk_ast.specs.declared.tree.TStmt as code
use Rattle.cilk_ast.specs.declared.tree.TStmt.TheBlock.{shape-the_row-TStmt-0, hidden-the_row-TStmt-0}
use Rattle.cilk_ast.specs.declared.tree.TStmt.{TStmt}
use Rattle.cilk_ast.specs.TreeStatement.{part_of}
use Rattle.cilk_model.specs.FirstFault.{earlier, first_fault}
use Rattle.cilk_model.specs.Scopes.{Scopes, opened, closed}
use Rattle.cilk_model.specs.Locals.{after, after_part, after_all}
use Rattle.cilk_model.specs.StatementBreaks.{faults_in, faults_in_part, faults_in_all}
use Rattle.cilk_types.specs.Walking.{fault_in, left_by, fault_in_part, left_by_part, faults_in_list, after_list, fault_in_list, left_by_list}
use Rattle.cilk_types.proofs.FaultOrder.{first_fault_append}
use denote.Hole.Carrier.{hidden}

-- two lists of faults and three, with what their first faults are
pub first_two : (xs ys : List TextFault) (f g : Option TextFault) → first_fault xs ≡ f → first_fault ys ≡ g → first_fault (xs ++ ys) ≡ earlier f g
first_two xs ys f g e d = first_fault_append xs ys ∙ ap (λ x. earlier x (first_fault ys)) e ∙ ap (earlier f) d

pub first_three : (xs ys zs : List TextFault) (f g h : Option TextFault) → first_fault xs ≡ f → first_fault ys ≡ g → first_fault zs ≡ h →
    first_fault (xs ++ ys ++ zs) ≡ earlier (earlier f g) h
first_three xs ys zs f g h e d c = first_two (xs ++ ys) zs (earlier f g) h (first_two xs ys f g e d) c

-- ---- blocks

list_faults : (gives : Kind) (body : List TStmt) (scopes : Scopes) (inside : Bool) →
    faults_in_all gives (hidden-the_row-TStmt-0 body) scopes inside ≡ faults_in_list gives body scopes inside
unfolding shape-the_row-TStmt-0 hidden-the_row-TStmt-0 hidden
list_faults gives [] scopes inside = refl
list_faults gives (s ∷ body) scopes inside = ap (λ fs. faults_in gives s scopes inside ++ fs) (list_faults gives body (after s scopes) inside)

list_after : (body : List TStmt) (scopes : Scopes) → after_all (hidden-the_row-TStmt-0 body) scopes ≡ after_list body scopes
unfolding shape-the_row-TStmt-0 hidden-the_row-TStmt-0 hidden
list_after [] scopes = refl
list_after (s ∷ body) scopes = list_after body (after s scopes)

pub block_fault : (gives : Kind) (body : List TStmt) (scopes : Scopes) (inside : Bool) →
    fault_in gives (code.Block body) scopes inside ≡ fault_in_list gives body (opened scopes) inside
unfolding fault_in fault_in_list
block_fault gives body scopes inside = ap first_fault (list_faults gives body (opened scopes) inside)

pub block_left : (body : List TStmt) (scopes : Scopes) → left_by (code.Block body) scopes ≡ closed (left_by_list body (opened scopes))
unfolding left_by left_by_list
block_left body scopes = ap closed (list_after body (opened scopes))

pub next_fault : (gives : Kind) (s : TStmt) (rest : List TStmt) (scopes : Scopes) (inside : Bool) →
    fault_in_list gives (s ∷ rest) scopes inside ≡ earlier (fault_in gives s scopes inside) (fault_in_list gives rest (left_by s scopes) inside)
unfolding fault_in left_by fault_in_list
next_fault gives s rest scopes inside = first_fault_append (faults_in gives s scopes inside) (faults_in_list gives rest (after s scopes) inside)

pub next_left : (s : TStmt) (rest : List TStmt) (scopes : Scopes) → left_by_list (s ∷ rest) scopes ≡ left_by_list rest (left_by s scopes)
unfolding left_by left_by_list
next_left s rest scopes = refl

pub none_fault : (gives : Kind) (scopes : Scopes) (inside : Bool) → fault_in_list gives [] scopes inside ≡ None
unfolding fault_in_list
none_fault gives scopes inside = refl

pub none_left : (scopes : Scopes) → left_by_list [] scopes ≡ scopes
unfolding left_by_list
none_left scopes = refl

-- ---- parts that may be missing

pub part_faults_is : (gives : Kind) (part : Option TStmt) (scopes : Scopes) (inside : Bool) →
    first_fault (faults_in_part gives (part_of part) scopes inside) ≡ fault_in_part gives part scopes inside
unfolding fault_in
part_faults_is gives None scopes inside = refl
part_faults_is gives (Some s) scopes inside = refl

pub part_left_is : (part : Option TStmt) (scopes : Scopes) → after_part (part_of part) scopes ≡ left_by_part part scopes
unfolding left_by
part_left_is None scopes = refl
part_left_is (Some s) scopes = refl
