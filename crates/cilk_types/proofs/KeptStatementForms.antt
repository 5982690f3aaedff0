-- Each form of statement that code builds is well formed where its parts are.
use Rattle.std.proofs.Common.{◌≡◌, ℕ, Bool, true, ◌&&◌, List, [], ◌∷◌, refl}
use Rattle.std.specs.List.{list_all}
use Rattle.std.proofs.lemmas.Bool.{and_parts, and_from}
use Rattle.cilk_ast.specs.Kept.{writes_slots, spawns_agree, keeps_expression, keeps_statement, breaks_agree, all_breaks_agree}
use Rattle.cilk_ast.specs.Parts.{each, each_of, expressions_of}
use Rattle.cilk_ast.specs.Statement.{If, Loop}
use Rattle.cilk_ast.specs.declared.program.Expr.{Expr}
use Rattle.cilk_ast.specs.declared.program.Function.{Function}
use Rattle.cilk_ast.specs.declared.program.Stmt.TheBlock.{shape-the_row-Stmt-0, hidden-the_row-Stmt-0, shape-the_row-Stmt-1, hidden-the_row-Stmt-1}
use Rattle.cilk_ast.specs.declared.program.Stmt.{Stmt, Nothing, Block', Eval, Set, Store, AddTo, Spawn, Each, Break, Continue, Return, Sync, Row_of-Stmt as Stmts, end_of-Stmt as no_stmts, more_of-Stmt as more_stmts}
use Rattle.cilk_ast.specs.declared.program.Stmt as code
use Rattle.cilk_types.proofs.KeptLists.{all_imply}
use Rattle.cilk_types.proofs.KeptForms.{three_true, all_sound, keeps_sound}
use denote.Hole.Carrier.{hidden}

-- the conditions on one statement and its expressions together
abbrev pub is_sound_statement : List Function → ℕ → Stmt → Bool
is_sound_statement functions slots s = writes_slots slots s && spawns_agree functions s && list_all (all_sound functions slots) (expressions_of s)

-- every statement in a statement meets the conditions
abbrev pub statement_sound : List Function → ℕ → Stmt → Bool
statement_sound functions slots s = each (is_sound_statement functions slots) s

module _ (p q : Stmt → Bool) (h : (s : Stmt) → p s ≡ true → q s ≡ true) where
  mutual
    pub each_implies : (s : Stmt) → each p s ≡ true → each q s ≡ true
    each_implies (Block' n body) m =
        let parts = and_parts (p (Block' n body)) (each_of p body) m in and_from _ _ (h (Block' n body) (parts.0)) (row_implies body (parts.1))
    each_implies (If test yes_ no_) m =
        let parts = and_parts (p (If test yes_ no_) && each p yes_) (each p no_) m in
        let head = and_parts (p (If test yes_ no_)) (each p yes_) (parts.0) in
        and_from _ _ (and_from _ _ (h (If test yes_ no_) (head.0)) (each_implies yes_ (head.1))) (each_implies no_ (parts.1))
    each_implies (Loop test step body) m =
        let parts = and_parts (p (Loop test step body) && each p step) (each p body) m in
        let head = and_parts (p (Loop test step body)) (each p step) (parts.0) in
        and_from _ _ (and_from _ _ (h (Loop test step body) (head.0)) (each_implies step (head.1))) (each_implies body (parts.1))
    each_implies Nothing m = h Nothing m
    each_implies (Eval e) m = h (Eval e) m
    each_implies (Set slot e) m = h (Set slot e) m
    each_implies (Store at address e) m = h (Store at address e) m
    each_implies (AddTo at address e) m = h (AddTo at address e) m
    each_implies (Spawn at target function hint args) m = h (Spawn at target function hint args) m
    each_implies (Each at low high function copies) m = h (Each at low high function copies) m
    each_implies Break m = h Break m
    each_implies Continue m = h Continue m
    each_implies (Return e) m = h (Return e) m
    each_implies Sync m = h Sync m

    row_implies : {n : _} (body : Stmts n) → each_of p body ≡ true → each_of q body ≡ true
    row_implies no_stmts m = refl
    row_implies (more_stmts first rest) m =
        let parts = and_parts (each p first) (each_of p rest) m in and_from _ _ (each_implies first (parts.0)) (row_implies rest (parts.1))

-- the three conditions follow from the one
pub keeps_statement_sound : (functions : List Function) (slots : ℕ) (s : Stmt) → statement_sound functions slots s ≡ true → keeps_statement functions slots s ≡ true
keeps_statement_sound functions slots s m =
    let p = is_sound_statement functions slots in
    let parts : (s : Stmt) → p s ≡ true →
    (writes_slots slots s ≡ true) × (spawns_agree functions s ≡ true) × (list_all (all_sound functions slots) (expressions_of s) ≡ true) =
    λ s h. three_true (writes_slots slots s) (spawns_agree functions s) (list_all (all_sound functions slots) (expressions_of s)) h in
    let holds : (s : Stmt) → p s ≡ true → list_all (keeps_expression functions slots) (expressions_of s) ≡ true =
    λ s h. all_imply (all_sound functions slots) (keeps_expression functions slots) (keeps_sound functions slots) (expressions_of s) ((parts s h).2) in
    and_from _ _ (and_from _ _ (each_implies p (writes_slots slots) (λ s h. (parts s h).0) s m) (each_implies p (spawns_agree functions) (λ s h. (parts s h).1) s m))
    (each_implies p (λ s. list_all (keeps_expression functions slots) (expressions_of s)) holds s m)

-- ---- the forms that code builds

row_sound : (functions : List Function) (slots : ℕ) (body : List Stmt) → list_all (statement_sound functions slots) body ≡ true →
    each_of (is_sound_statement functions slots) (hidden-the_row-Stmt-0 body) ≡ true
unfolding shape-the_row-Stmt-0 hidden-the_row-Stmt-0 hidden
row_sound functions slots [] m = refl
row_sound functions slots (s ∷ body) m =
    let parts = and_parts (statement_sound functions slots s) (list_all (statement_sound functions slots) body) m in
    and_from _ _ (parts.0) (row_sound functions slots body (parts.1))

pub block_sound : (functions : List Function) (slots : ℕ) (body : List Stmt) → list_all (statement_sound functions slots) body ≡ true →
    statement_sound functions slots (code.Block body) ≡ true
block_sound functions slots body m = row_sound functions slots body m

pub if_sound : (functions : List Function) (slots : ℕ) (test : Expr) (yes_ no_ : Stmt) → all_sound functions slots test ≡ true →
    statement_sound functions slots yes_ ≡ true → statement_sound functions slots no_ ≡ true → statement_sound functions slots (code.If test yes_ no_) ≡ true
unfolding shape-the_row-Stmt-1 hidden-the_row-Stmt-1 hidden
if_sound functions slots test yes_ no_ h k l = and_from _ _ (and_from _ _ (and_from _ _ h refl) k) l

pub loop_sound : (functions : List Function) (slots : ℕ) (test : Expr) (step body : Stmt) → all_sound functions slots test ≡ true →
    statement_sound functions slots step ≡ true → statement_sound functions slots body ≡ true → statement_sound functions slots (code.Loop test step body) ≡ true
unfolding shape-the_row-Stmt-1 hidden-the_row-Stmt-1 hidden
loop_sound functions slots test step body h k l = and_from _ _ (and_from _ _ (and_from _ _ h refl) k) l

row_breaks : (body : List Stmt) (inside : Bool) → list_all (λ s. breaks_agree s inside) body ≡ true → all_breaks_agree (hidden-the_row-Stmt-0 body) inside ≡ true
unfolding shape-the_row-Stmt-0 hidden-the_row-Stmt-0 hidden
row_breaks [] inside m = refl
row_breaks (s ∷ body) inside m =
    let parts = and_parts (breaks_agree s inside) (list_all (λ s. breaks_agree s inside) body) m in and_from _ _ (parts.0) (row_breaks body inside (parts.1))

pub block_breaks : (body : List Stmt) (inside : Bool) → list_all (λ s. breaks_agree s inside) body ≡ true → breaks_agree (code.Block body) inside ≡ true
block_breaks body inside m = row_breaks body inside m

pub if_breaks : (test : Expr) (yes_ no_ : Stmt) (inside : Bool) → breaks_agree yes_ inside ≡ true → breaks_agree no_ inside ≡ true →
    breaks_agree (code.If test yes_ no_) inside ≡ true
unfolding shape-the_row-Stmt-1 hidden-the_row-Stmt-1 hidden
if_breaks test yes_ no_ inside h k = and_from _ _ h k

pub loop_breaks : (test : Expr) (step body : Stmt) (inside : Bool) → breaks_agree step inside ≡ true → breaks_agree body true ≡ true →
    breaks_agree (code.Loop test step body) inside ≡ true
unfolding shape-the_row-Stmt-1 hidden-the_row-Stmt-1 hidden
loop_breaks test step body inside h k = and_from _ _ h k
