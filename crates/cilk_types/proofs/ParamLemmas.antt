-- Parameters, one after the other, and the outermost block of a function.
use Rattle.std.proofs.Common.{◌≡◌, ◌∙◌, ap, sym, ℕ, suc, Bool, false, List, [], ◌∷◌, ◌++◌, drop, Option, Some, refl}
use Rattle.std.specs.List.{slice_get}
use Rattle.cilk_ast.specs.declared.fault.FaultKind.TheVariants as fault
use Rattle.cilk_ast.specs.declared.fault.TextFault.{TextFault}
use Rattle.cilk_ast.specs.declared.kind.Kind.{Kind}
use Rattle.cilk_ast.specs.declared.tree.Param.{Param}
use Rattle.cilk_ast.specs.declared.tree.TStmt as code
use Rattle.cilk_ast.specs.declared.tree.TStmt.TheBlock.{shape-the_row-TStmt-0, hidden-the_row-TStmt-0}
use Rattle.cilk_ast.specs.declared.tree.TStmt.{TStmt, Empty, Block', Local, Eval, Assign, AddTo, Up, Down, Spawn, Break, Continue, Return, Sync}
use Rattle.cilk_ast.specs.declared.tree.TStmt.TheViews.{roll-TStmt, roll-out-TStmt, outs-Block', rolls-Block}
use Rattle.cilk_ast.specs.TreeStatement.{If, While, For, CilkFor}
use Rattle.cilk_model.specs.FirstFault.{broken_if, earlier, first_fault}
use Rattle.cilk_model.specs.Scopes.{Scopes, is_twice, declared}
use Rattle.cilk_model.specs.Locals.{after, after_params}
use Rattle.cilk_model.specs.StatementBreaks.{faults_in, faults_in_all, faults_in_body}
use Rattle.cilk_model.specs.Breaks.{param_faults}
use Rattle.cilk_types.specs.Walking.{fault_in, faults_in_list, fault_in_list}
use Rattle.cilk_types.proofs.FaultOrder.{earlier_assoc, first_fault_append}
use Rattle.cilk_types.proofs.ArgumentLemmas.{drop_item}
use denote.Hole.Carrier.{hidden}

pub param_next :
    (params : List Param) (i j : ℕ) (p : Param) (name : List ℕ) (before now : Scopes) (twice : Bool) (wrong worst new all : Option TextFault) →
    j ≡ suc i → slice_get params i ≡ Some p → name ≡ p.name → twice ≡ is_twice name before.around → now ≡ declared name p.kind before →
    wrong ≡ first_fault (broken_if twice fault.Twice p.pos) → new ≡ earlier worst wrong →
    earlier worst (first_fault (param_faults (drop i params) before)) ≡ all → earlier new (first_fault (param_faults (drop j params) now)) ≡ all
param_next params i j p name before now twice wrong worst new all next item same is_twice' is_now is_wrong is_new h =
    let rest = drop (suc i) params in
    let first = broken_if (is_twice p.name before.around) fault.Twice p.pos in
    let wrong_is : wrong ≡ first_fault first =
    is_wrong ∙ ap (λ b. first_fault (broken_if b fault.Twice p.pos)) (is_twice' ∙ ap (λ n. is_twice n before.around) same) in
    ap (λ n. earlier new (first_fault (param_faults (drop n params) now))) next
    ∙ ap (λ s. earlier new (first_fault (param_faults rest s))) (is_now ∙ ap (λ n. declared n p.kind before) same)
    ∙ ap (λ f. earlier f (first_fault (param_faults rest (declared p.name p.kind before)))) (is_new ∙ ap (earlier worst) wrong_is)
    ∙ earlier_assoc worst (first_fault first) (first_fault (param_faults rest (declared p.name p.kind before)))
    ∙ ap (earlier worst)
    (sym
    (ap (λ ps. first_fault (param_faults ps before)) (drop_item params i p item)
    ∙ first_fault_append first (param_faults rest (declared p.name p.kind before))))
    ∙ h

pub known_next :
    (params : List Param) (i j : ℕ) (p : Param) (name : List ℕ) (before now all : Scopes) → j ≡ suc i → slice_get params i ≡ Some p → name ≡ p.name →
    now ≡ declared name p.kind before → after_params (drop i params) before ≡ all → after_params (drop j params) now ≡ all
known_next params i j p name before now all next item same is_now h =
    ap (λ n. after_params (drop n params) now) next
    ∙ ap (after_params (drop (suc i) params)) (is_now ∙ ap (λ n. declared n p.kind before) same)
    ∙ sym (ap (λ ps. after_params ps before) (drop_item params i p item)) ∙ h

block_faults : (gives : Kind) (body : List TStmt) (scopes : Scopes) →
    faults_in_all gives (hidden-the_row-TStmt-0 body) scopes false ≡ faults_in_list gives body scopes false
unfolding shape-the_row-TStmt-0 hidden-the_row-TStmt-0 hidden
block_faults gives [] scopes = refl
block_faults gives (s ∷ body) scopes = ap (λ fs. faults_in gives s scopes false ++ fs) (block_faults gives body (after s scopes))

pub body_block : (gives : Kind) (body : TStmt) (list : List TStmt) (scopes : Scopes) → body ≡ code.Block list →
    fault_in_list gives list scopes false ≡ first_fault (faults_in_body gives body scopes)
unfolding fault_in_list
body_block gives body list scopes is =
    sym (ap (λ b. first_fault (faults_in_body gives b scopes)) is ∙ ap first_fault (block_faults gives list scopes))

pub body_other : (gives : Kind) (body : TStmt) (scopes : Scopes) → ((list : List TStmt) → body ≡ code.Block list → ⊥) →
    fault_in gives body scopes false ≡ first_fault (faults_in_body gives body scopes)
unfolding fault_in
body_other gives (Block' n row) scopes h =
    absurd (h _ (sym (roll-out-TStmt (Block' n row)) ∙ ap roll-TStmt (outs-Block' n row) ∙ rolls-Block _))
body_other gives Empty scopes h = refl
body_other gives (Local a k n v) scopes h = refl
body_other gives (Eval e) scopes h = refl
body_other gives (Assign a l v) scopes h = refl
body_other gives (AddTo a l v) scopes h = refl
body_other gives (Up l) scopes h = refl
body_other gives (Down l) scopes h = refl
body_other gives (Spawn s) scopes h = refl
body_other gives (If t y n) scopes h = refl
body_other gives (While t b) scopes h = refl
body_other gives (For i t s b) scopes h = refl
body_other gives (CilkFor a n l s h' t b) scopes h = refl
body_other gives (Break a) scopes h = refl
body_other gives (Continue a) scopes h = refl
body_other gives (Return a v) scopes h = refl
body_other gives Sync scopes h = refl
