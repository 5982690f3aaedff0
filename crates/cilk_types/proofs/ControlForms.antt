-- The first fault in each form of statement that has statements in it, and what is known behind it.
use Rattle.std.proofs.Common.{◌≡◌, ◌∙◌, ap, sym, ℕ, Bool, true, false, List, ◌++◌, Option, refl}
use Rattle.word_ops.specs.declared.place.Pos.{Pos}
use Rattle.cilk_ast.specs.declared.fault.TextFault.{TextFault}
use Rattle.cilk_ast.specs.declared.kind.Kind.{Kind}
use Rattle.cilk_ast.specs.declared.tree.TExpr.{TExpr}
use Rattle.cilk_ast.specs.declared.tree.TStmt as code
use Rattle.cilk_ast.specs.declared.tree.TStmt.{TStmt}
use Rattle.cilk_ast.specs.TreeStatement.{part_of}
use Rattle.cilk_model.specs.FirstFault.{earlier, first_fault}
use Rattle.cilk_model.specs.Scopes.{Scopes, names_in, opened, closed}
use Rattle.cilk_model.specs.Sorts.{is_word, is_value}
use Rattle.cilk_model.specs.ExpressionBreaks.{part_faults}
use Rattle.cilk_model.specs.Locals.{in_body, after, after_part}
use Rattle.cilk_model.specs.StatementBreaks.{test_faults, other_name, faults_in, faults_in_part}
use Rattle.cilk_types.specs.declared.judgement.Want.TheVariants as want
use Rattle.cilk_types.specs.Values.{part_fault, test_fault}
use Rattle.cilk_types.specs.Walking.{fault_in, left_by, fault_in_part, left_by_part}
use Rattle.cilk_ast.proofs.TreeStatementForms.{if_form, for_form, while_form, cilk_for_form}
use Rattle.cilk_types.proofs.StatementForms.{block_fault, block_left, first_two, first_three, part_faults_is, part_left_is}
use Rattle.cilk_types.proofs.ValueLemmas.{part_value, part_word, test_is}

pub if_fault : (gives : Kind) (test : TExpr) (yes_ : TStmt) (no_ : Option TStmt) (scopes : Scopes) (inside : Bool) →
    fault_in gives (code.If test yes_ no_) scopes inside
    ≡ earlier (earlier (part_fault (names_in scopes) want.Value test) (fault_in gives yes_ scopes inside)) (fault_in_part gives no_ (left_by yes_ scopes) inside)
unfolding fault_in left_by
if_fault gives test yes_ no_ scopes inside =
    ap (λ s. fault_in gives s scopes inside) (if_form test yes_ no_)
    ∙ first_three (part_faults (names_in scopes) is_value test) (faults_in gives yes_ scopes inside) (faults_in_part gives (part_of no_) (after yes_ scopes) inside) _ _ _
    (part_value (names_in scopes) test) refl (part_faults_is gives no_ (after yes_ scopes) inside)

pub if_left : (test : TExpr) (yes_ : TStmt) (no_ : Option TStmt) (scopes : Scopes) →
    left_by (code.If test yes_ no_) scopes ≡ left_by_part no_ (left_by yes_ scopes)
unfolding left_by
if_left test yes_ no_ scopes = ap (λ s. left_by s scopes) (if_form test yes_ no_) ∙ part_left_is no_ (after yes_ scopes)

pub while_fault : (gives : Kind) (test : TExpr) (body : TStmt) (scopes : Scopes) (inside : Bool) →
    fault_in gives (code.While test body) scopes inside ≡ earlier (part_fault (names_in scopes) want.Value test) (fault_in gives body scopes true)
unfolding fault_in
while_fault gives test body scopes inside =
    ap (λ s. fault_in gives s scopes inside) (while_form test body)
    ∙ first_two (part_faults (names_in scopes) is_value test) (faults_in gives body scopes true) _ _ (part_value (names_in scopes) test) refl

pub while_left : (test : TExpr) (body : TStmt) (scopes : Scopes) → left_by (code.While test body) scopes ≡ left_by body scopes
unfolding left_by
while_left test body scopes = ap (λ s. left_by s scopes) (while_form test body)

-- a `for` whose initial part leaves these scopes, and its step those
for_parts : (gives : Kind) (init : Option TStmt) (test : Option TExpr) (step : Option TStmt) (body : TStmt) (scopes : Scopes) (inside : Bool) (begun stepped : Scopes) →
    Option TextFault
for_parts gives init test step body scopes inside begun stepped =
    earlier (earlier (earlier (fault_in_part gives init (opened scopes) inside) (test_fault (names_in begun) test)) (fault_in_part gives step begun inside))
    (fault_in gives body stepped true)

for_so : (gives : Kind) (init : Option TStmt) (test : Option TExpr) (step : Option TStmt) (body : TStmt) (scopes : Scopes) (inside : Bool) →
    fault_in gives (code.For init test step body) scopes inside
    ≡ for_parts gives init test step body scopes inside (after_part (part_of init) (opened scopes))
    (after_part (part_of step) (after_part (part_of init) (opened scopes)))
unfolding fault_in for_parts
for_so gives init test step body scopes inside =
    let begun = after_part (part_of init) (opened scopes) in
    ap (λ s. fault_in gives s scopes inside) (for_form init test step body)
    ∙ first_two
    (faults_in_part gives (part_of init) (opened scopes) inside ++ test_faults (names_in begun) test ++ faults_in_part gives (part_of step) begun inside)
    (faults_in gives body (after_part (part_of step) begun) true) _ _
    (first_three (faults_in_part gives (part_of init) (opened scopes) inside) (test_faults (names_in begun) test) (faults_in_part gives (part_of step) begun inside) _ _ _
    (part_faults_is gives init (opened scopes) inside) (test_is (names_in begun) test) (part_faults_is gives step begun inside))
    refl

pub for_fault : (gives : Kind) (init : Option TStmt) (test : Option TExpr) (step : Option TStmt) (body : TStmt) (scopes : Scopes) (inside : Bool) →
    let begun = left_by_part init (opened scopes) in
    fault_in gives (code.For init test step body) scopes inside
    ≡ earlier (earlier (earlier (fault_in_part gives init (opened scopes) inside) (test_fault (names_in begun) test)) (fault_in_part gives step begun inside))
    (fault_in gives body (left_by_part step begun) true)
unfolding for_parts
for_fault gives init test step body scopes inside =
    for_so gives init test step body scopes inside
    ∙ ap (λ begun. for_parts gives init test step body scopes inside begun (after_part (part_of step) begun)) (part_left_is init (opened scopes))
    ∙ ap (for_parts gives init test step body scopes inside (left_by_part init (opened scopes))) (part_left_is step (left_by_part init (opened scopes)))

pub for_left : (init : Option TStmt) (test : Option TExpr) (step : Option TStmt) (body : TStmt) (scopes : Scopes) →
    left_by (code.For init test step body) scopes ≡ closed (left_by body (left_by_part step (left_by_part init (opened scopes))))
unfolding left_by
for_left init test step body scopes =
    ap (λ s. left_by s scopes) (for_form init test step body)
    ∙ ap (λ begun. closed (after body (after_part (part_of step) begun))) (part_left_is init (opened scopes))
    ∙ ap (λ stepped. closed (after body stepped)) (part_left_is step (left_by_part init (opened scopes)))

pub cilk_for_fault :
    (gives : Kind) (at : Pos) (name : List ℕ) (low : TExpr) (second : Pos × List ℕ) (high : TExpr) (third : Pos × List ℕ) (body : TStmt) (scopes : Scopes) (inside : Bool) →
    fault_in gives (code.CilkFor at name low second high third body) scopes inside
    ≡ earlier
    (earlier
    (earlier (earlier (part_fault (names_in scopes) want.Word low) (first_fault (other_name name second))) (part_fault (names_in scopes) want.Word high))
    (first_fault (other_name name third))) (fault_in gives body (in_body name scopes) false)
unfolding fault_in
cilk_for_fault gives at name low second high third body scopes inside =
    let lows = part_faults (names_in scopes) is_word low in
    let highs = part_faults (names_in scopes) is_word high in
    ap (λ s. fault_in gives s scopes inside) (cilk_for_form at name low second high third body)
    ∙ first_three (lows ++ other_name name second ++ highs) (other_name name third) (faults_in gives body (in_body name scopes) false) _ _ _
    (first_three lows (other_name name second) highs _ _ _ (part_word (names_in scopes) low) refl (part_word (names_in scopes) high)) refl refl

pub cilk_for_left :
    (at : Pos) (name : List ℕ) (low : TExpr) (second : Pos × List ℕ) (high : TExpr) (third : Pos × List ℕ) (body : TStmt) (scopes : Scopes) →
    left_by (code.CilkFor at name low second high third body) scopes ≡ record (closed (left_by body (in_body name scopes))) { level = scopes.level }
unfolding left_by
cilk_for_left at name low second high third body scopes = ap (λ s. left_by s scopes) (cilk_for_form at name low second high third body)

pub ruleset control_forms = (block_fault, block_left, if_fault, if_left, while_fault, while_left, for_fault, for_left, cilk_for_fault, cilk_for_left)

-- a `for` with what code finds in its parts
pub for_found :
    (gives : Kind) (s : TStmt) (init : Option TStmt) (test : Option TExpr) (step : Option TStmt) (body again : TStmt) (scopes inner begun stepped : Scopes)
    (inside : Bool) (first second third fourth two three four : Option TextFault) → s ≡ code.For init test step body → inner ≡ opened scopes →
    first ≡ fault_in_part gives init inner inside → begun ≡ left_by_part init inner → second ≡ test_fault (names_in begun) test →
    third ≡ fault_in_part gives step begun inside → stepped ≡ left_by_part step begun → again ≡ body → fourth ≡ fault_in gives again stepped true →
    two ≡ earlier first second → three ≡ earlier two third → four ≡ earlier three fourth → four ≡ fault_in gives s scopes inside
for_found gives s init test step body again scopes inner begun stepped inside first second third fourth two three four is i f b g h p r k l m n =
    let e = for_fault gives init test step body scopes inside in
    n ∙ ap (λ x. earlier x fourth) (m ∙ ap (λ x. earlier x third) (l ∙ ap (λ x. earlier x second) (f ∙ ap (λ x. fault_in_part gives init x inside) i) ∙ ap (earlier _) (g ∙ ap (λ x. test_fault (names_in x) test) (b ∙ ap (left_by_part init) i)))
    ∙ ap (earlier _) (h ∙ ap (λ x. fault_in_part gives step x inside) (b ∙ ap (left_by_part init) i)))
    ∙ ap (earlier _) (k ∙ ap (λ x. fault_in gives x stepped true) r ∙ ap (λ x. fault_in gives body x true) (p ∙ ap (left_by_part step) (b ∙ ap (left_by_part init) i)))
    ∙ sym e ∙ ap (λ x. fault_in gives x scopes inside) (sym is)
