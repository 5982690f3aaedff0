-- Which statements have a `cilk_for`.
use Rattle.std.proofs.Common.{◌≡◌, ℕ, zero, suc, ◌+◌, ◌<◌, ◌≤◌, List, [], ◌∷◌, length, Some, None, true, false, Bool, refl, ap, ◌∙◌, sym, take, arith}
use Rattle.std.specs.Prelude.{not, ◌&&◌, slice_get, if◌then◌else◌}
use Rattle.std.proofs.lemmas.List.{take_all}
use Rattle.word_ops.specs.declared.place.Pos.{Pos}
use Rattle.cilk_ast.specs.declared.program.Expr.{Expr}
use Rattle.cilk_ast.specs.declared.program.Stmt as code
use Rattle.cilk_ast.specs.declared.program.Stmt.{Stmt, Nothing, Block', Eval, Set, Store, AddTo, Spawn, Each, Break, Continue, Return, Sync, Row_of-Stmt as Stmts, end_of-Stmt as no_stmts, more_of-Stmt as more_stmts}
use Rattle.cilk_ast.specs.Statement.{If, Loop, listed}
use Rattle.cilk_ast.specs.Parts.{each, each_of}
use Rattle.codegen_stmt.specs.Parts.{children_of}
use Rattle.codegen_stmt.specs.Whole.{is_no_each, has_each, kept_words}

-- No statement of a list has one.
abbrev pub none_each : List Stmt → Bool
none_each [] = true
none_each (s ∷ rest) = each is_no_each s && none_each rest

none_listed : {n : _} (row : Stmts n) → none_each (listed row) ≡ each_of is_no_each row
none_listed no_stmts = refl
none_listed (more_stmts s rest) = ap (λ b. each is_no_each s && b) (none_listed rest)

and_true : (a : Bool) → (a && true) ≡ a
and_true true = refl
and_true false = refl

pub of_children : (s : Stmt) → each is_no_each s ≡ (is_no_each s && none_each (children_of s))
unfolding children_of
of_children Nothing = refl
of_children (Block' n body) = sym (none_listed body)
of_children (Eval e) = refl
of_children (Set slot e) = refl
of_children (Store at l e) = refl
of_children (AddTo at l e) = refl
of_children (Spawn at target g hint args) = refl
of_children (If test x y) = ap (λ b. each is_no_each x && b) (sym (and_true (each is_no_each y)))
of_children (Loop test step_ body) = swapped (each is_no_each step_) (each is_no_each body)
  where
    swapped : (a b : Bool) → (a && b) ≡ (b && (a && true))
    swapped true true = refl
    swapped true false = refl
    swapped false true = refl
    swapped false false = refl
of_children (Each at low high g copies) = refl
of_children Break = refl
of_children Continue = refl
of_children (Return e) = refl
of_children Sync = refl

pub is_each : (s : Stmt) (at : Pos) (low high : Expr) (g : ℕ) (copies : List ℕ) → s ≡ code.Each at low high g copies → has_each s ≡ true
unfolding has_each
is_each s at low high g copies is = ap (λ s. not (each is_no_each s)) is

no_each : (s : Stmt) → ((at : Pos) (low high : Expr) (g : ℕ) (copies : List ℕ) → s ≡ code.Each at low high g copies → ⊥) → is_no_each s ≡ true
no_each (Each at low high g copies) never = absurd (never at low high g copies refl)
no_each Nothing never = refl
no_each (Block' n body) never = refl
no_each (Eval e) never = refl
no_each (Set slot e) never = refl
no_each (Store at l e) never = refl
no_each (AddTo at l e) never = refl
no_each (Spawn at target g hint args) never = refl
no_each (If test x y) never = refl
no_each (Loop test x y) never = refl
no_each Break never = refl
no_each Continue never = refl
no_each (Return e) never = refl
no_each Sync never = refl

and_false : (a : Bool) → (a && false) ≡ false
and_false true = refl
and_false false = refl

one_has : (rest : List Stmt) (i : ℕ) (s : Stmt) → slice_get rest i ≡ Some s → has_each s ≡ true → none_each rest ≡ false
unfolding has_each
one_has [] i s is has = absurd (let wrong : None ≡ Some s = is in cc)
one_has (x ∷ rest) zero s is has =
    let some : Some x ≡ Some s = is in
    let same : x ≡ s = cc in
    let none : each is_no_each x ≡ false = negated (each is_no_each x) (ap (λ z. not (each is_no_each z)) same ∙ has) in
    ap (λ b. b && none_each rest) none
  where
    negated : (b : Bool) → not b ≡ true → b ≡ false
    negated false e = refl
    negated true e = let wrong : false ≡ true = e in cc
one_has (x ∷ rest) (suc i) s is has = ap (λ b. each is_no_each x && b) (one_has rest i s is has) ∙ and_false (each is_no_each x)

pub child_has : (s : Stmt) (i : ℕ) (child : Stmt) → slice_get (children_of s) i ≡ Some child → has_each child ≡ true → has_each s ≡ true
unfolding has_each
child_has s i child is has = ap not (of_children s ∙ ap (λ b. is_no_each s && b) (one_has (children_of s) i child is has) ∙ and_false (is_no_each s))

-- The first so many have none.
pub none_more : (rest : List Stmt) (i : ℕ) (s : Stmt) → i < length rest → slice_get rest i ≡ Some s → none_each (take i rest) ≡ true → has_each s ≡ false → none_each (take (i + 1) rest) ≡ true
unfolding has_each
none_more [] i s lt is none has = absurd (omega arith)
none_more (x ∷ rest) zero s lt is none has =
    let some : Some x ≡ Some s = is in
    let same : x ≡ s = cc in
    ap (λ b. b && true) (negated (each is_no_each x) (ap (λ z. not (each is_no_each z)) same ∙ has))
  where
    negated : (b : Bool) → not b ≡ false → b ≡ true
    negated true e = refl
    negated false e = let wrong : true ≡ false = e in cc
none_more (x ∷ rest) (suc i) s lt is none has =
    let parts = split (each is_no_each x) (none_each (take i rest)) none in
    let later = none_more rest i s (omega arith) is parts.1 has in
    let e : suc i + 1 ≡ suc (i + 1) = omega arith in
    ap (λ n. none_each (take n (x ∷ rest))) e ∙ ap (λ b. b && none_each (take (i + 1) rest)) parts.0 ∙ later
  where
    split : (a b : Bool) → (a && b) ≡ true → (a ≡ true) × (b ≡ true)
    split true b e = (refl, e)
    split false b e = (e, let wrong : false ≡ true = e in cc)

pub none_has : (s : Stmt) (i : ℕ) → ((at : Pos) (low high : Expr) (g : ℕ) (copies : List ℕ) → s ≡ code.Each at low high g copies → ⊥) → length (children_of s) ≤ i → none_each (take i (children_of s)) ≡ true →
    has_each s ≡ false
unfolding has_each
none_has s i never le none =
    ap not (of_children s ∙ ap (λ b. b && none_each (children_of s)) (no_each s never) ∙ sym (ap none_each (take_all i (children_of s) le)) ∙ none)

pub kept_is : (s : Stmt) (b : Bool) → b ≡ has_each s → ◌≡◌ {A = ℕ} (kept_words s) (if b then 2 else 0)
unfolding has_each
kept_is s b is = by_case (each is_no_each s) ∙ ap (λ (b : Bool). let n : ℕ = if b then 2 else 0 in n) (sym is)
  where
    by_case : (t : Bool) → ◌≡◌ {A = ℕ} (if t then 0 else 2) (if not t then 2 else 0)
    by_case true = refl
    by_case false = refl

pub kept_true : (s : Stmt) (b : Bool) → b ≡ has_each s → b ≡ true → 2 ≡ kept_words s
kept_true s b is e = sym (kept_is s b is ∙ ap (λ (b : Bool). let n : ℕ = if b then 2 else 0 in n) e)

pub kept_false : (s : Stmt) (b : Bool) → b ≡ has_each s → b ≡ false → 0 ≡ kept_words s
kept_false s b is e = sym (kept_is s b is ∙ ap (λ (b : Bool). let n : ℕ = if b then 2 else 0 in n) e)
