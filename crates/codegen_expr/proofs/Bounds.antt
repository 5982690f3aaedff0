-- How large the code of an expression is.
use Rattle.std.proofs.Common.{◌≡◌, ℕ, suc, ◌+◌, ◌*◌, ◌≤◌, List, [], ◌∷◌, ◌++◌, length, refl, ap, subst, arith, length-append}
use Rattle.std.specs.Prelude.{max}
use Rattle.word_ops.specs.declared.format.Part.{Part}
use Rattle.cilk_ast.specs.declared.program.Expr.{Expr, Word, Slot, Call', Fence, Where, Print', Alloc', Row_of-Expr as Args, end_of-Expr as no_args, more_of-Expr as more_args}
use Rattle.cilk_ast.specs.Expression.{Un, Bin, Both, Either, Load, Post, Add, Swap, Cas, Init, Move, listed}
use Rattle.cilk_ast.specs.Nodes.{expression_nodes, argument_nodes}
use Rattle.threadlet_code.specs.declared.instr.Instr.TheVariants as by
use Rattle.codegen_expr.specs.Piece.{Line, line, placeless, zero_line, Piece, in_order, operation, printing}
use Rattle.codegen_expr.specs.Emitted.{kind_of, emitted, emitted_all, emitted_each}
use Rattle.codegen_expr.specs.Parts.{parts_of, own_size}

-- A piece for so many nodes is no larger than this.
pub record IsWithin (piece : Piece) (nodes : ℕ) : Type 0 where
  pub size : piece.size + 6 ≤ 8 * nodes
  pub formats : length piece.formats ≤ nodes
  pub rise : piece.rise ≤ nodes
  pub rises : 1 ≤ piece.rise

-- So are several for so many.
pub record AreWithin (pieces : List Piece) (nodes : ℕ) : Type 0 where
  pub size : (in_order pieces).size ≤ 8 * nodes
  pub formats : length (in_order pieces).formats ≤ nodes
  pub rise : (in_order pieces).rise ≤ nodes
  pub count : length pieces ≤ nodes
  pub rises : length pieces ≤ (in_order pieces).rise

none_within : AreWithin [] 0
none_within = record { size = omega arith; formats = omega arith; rise = omega arith; count = omega arith; rises = omega arith }

more_within : (piece : Piece) (pieces : List Piece) (m n : ℕ) → IsWithin piece m → AreWithin pieces n → AreWithin (piece ∷ pieces) (m + n)
more_within piece pieces m n p q =
    let rest = in_order pieces in
    let a = p.size in let b = p.formats in let c = p.rise in let d = p.rises in
    let a' = q.size in let b' = q.formats in let c' = q.rise in let d' = q.count in let e' = q.rises in
    record {
      size = omega arith;
      formats = omega (arith, length-append piece.formats rest.formats);
      rise = omega arith;
      count = omega arith;
      rises = omega arith;
    }

operation_within : (pieces : List Piece) (own : List Line) (nodes : ℕ) → AreWithin pieces nodes → length own ≤ 2 → IsWithin (operation pieces own) (suc nodes)
operation_within pieces own nodes p le =
    let a = p.size in let b = p.formats in let c = p.rise in
    record { size = omega arith; formats = omega arith; rise = omega arith; rises = omega arith }

printing_within : (format : List Part) (pieces : List Piece) (nodes : ℕ) → AreWithin pieces nodes → IsWithin (printing format pieces) (suc nodes)
printing_within format pieces nodes p =
    let a = p.size in let b = p.formats in let c = p.rise in
    record { size = omega arith; formats = omega (arith, length-append (in_order pieces).formats (format ∷ [])); rise = omega arith; rises = omega arith }

choice_within : (l r p : Piece) (m n k : ℕ) → IsWithin l m → IsWithin r n → k ≤ 7 → p.size ≡ l.size + r.size + k → p.formats ≡ l.formats ++ r.formats → p.rise ≡ max l.rise r.rise →
    IsWithin p (suc (m + n))
choice_within l r p m n k u v le size formats rise =
    let a = u.size in let b = u.formats in let c = u.rise in let d = u.rises in
    let a' = v.size in let b' = v.formats in let c' = v.rise in let d' = v.rises in
    record {
      size = omega arith;
      formats = omega (arith, ap length formats, length-append l.formats r.formats);
      rise = omega arith;
      rises = omega arith;
    }

one_within : (a : Piece) (m : ℕ) → IsWithin a m → AreWithin (a ∷ []) m
one_within a m p = let e : m + 0 ≡ m = omega arith in subst (AreWithin (a ∷ [])) e (more_within a [] m 0 p none_within)

two_within : (a b : Piece) (m n : ℕ) → IsWithin a m → IsWithin b n → AreWithin (a ∷ b ∷ []) (m + n)
two_within a b m n p q = more_within a (b ∷ []) m n p (one_within b n q)

mutual
  pub within : (e : Expr) → IsWithin (emitted e) (expression_nodes e)
  within (Word word) = operation_within [] (placeless (by.Push word) ∷ []) 0 none_within (omega arith)
  within (Slot slot) = operation_within [] (placeless (by.Get slot) ∷ []) 0 none_within (omega arith)
  within (Un at op e) = operation_within (emitted e ∷ []) (line at (by.Un op) ∷ []) (expression_nodes e) (one_within (emitted e) (expression_nodes e) (within e)) (omega arith)
  within (Bin at op l r) = operation_within (emitted l ∷ emitted r ∷ []) (line at (by.Bin op) ∷ []) (expression_nodes l + expression_nodes r) (two_within (emitted l) (emitted r) (expression_nodes l) (expression_nodes r) (within l) (within r)) (omega arith)
  within (Both at l r) = choice_within (emitted l) (emitted r) (emitted (Both at l r)) (expression_nodes l) (expression_nodes r) 5 (within l) (within r) (omega arith) (omega arith) refl refl
  within (Either at l r) = choice_within (emitted l) (emitted r) (emitted (Either at l r)) (expression_nodes l) (expression_nodes r) 7 (within l) (within r) (omega arith) (omega arith) refl refl
  within (Load at a) = operation_within (emitted a ∷ []) (line at by.Load ∷ []) (expression_nodes a) (one_within (emitted a) (expression_nodes a) (within a)) (omega arith)
  within (Call' at g n args) = operation_within (emitted_all args) (line at (by.Call g) ∷ []) (argument_nodes args) (all_within args) (omega arith)
  within (Post at op a v) = operation_within (emitted a ∷ emitted v ∷ []) (line at (by.Post op) ∷ zero_line ∷ []) (expression_nodes a + expression_nodes v) (two_within (emitted a) (emitted v) (expression_nodes a) (expression_nodes v) (within a) (within v)) (omega arith)
  within (Add at a v) = operation_within (emitted a ∷ emitted v ∷ []) (line at by.FetchAdd ∷ []) (expression_nodes a + expression_nodes v) (two_within (emitted a) (emitted v) (expression_nodes a) (expression_nodes v) (within a) (within v)) (omega arith)
  within (Swap at a v) = operation_within (emitted a ∷ emitted v ∷ []) (line at by.FetchSwap ∷ []) (expression_nodes a + expression_nodes v) (two_within (emitted a) (emitted v) (expression_nodes a) (expression_nodes v) (within a) (within v)) (omega arith)
  within (Cas at a x v) =
      let n = expression_nodes a + expression_nodes x + expression_nodes v in
      let e : expression_nodes a + (expression_nodes x + expression_nodes v) ≡ n = omega arith in
      operation_within (emitted a ∷ emitted x ∷ emitted v ∷ []) (line at by.FetchCas ∷ []) n
      (subst (AreWithin (emitted a ∷ emitted x ∷ emitted v ∷ [])) e (more_within (emitted a) (emitted x ∷ emitted v ∷ []) (expression_nodes a) (expression_nodes x + expression_nodes v) (within a)
      (two_within (emitted x) (emitted v) (expression_nodes x) (expression_nodes v) (within x) (within v)))) (omega arith)
  within (Init at a v) = operation_within (emitted a ∷ emitted v ∷ []) (line at by.Init ∷ zero_line ∷ []) (expression_nodes a + expression_nodes v) (two_within (emitted a) (emitted v) (expression_nodes a) (expression_nodes v) (within a) (within v)) (omega arith)
  within Fence = operation_within [] (placeless by.Fence ∷ zero_line ∷ []) 0 none_within (omega arith)
  within (Move at a) = operation_within (emitted a ∷ []) (line at by.Move ∷ zero_line ∷ []) (expression_nodes a) (one_within (emitted a) (expression_nodes a) (within a)) (omega arith)
  within Where = operation_within [] (placeless by.Where ∷ []) 0 none_within (omega arith)
  within (Print' format n args) = printing_within format (emitted_all args) (argument_nodes args) (all_within args)
  within (Alloc' at which n args) = operation_within (emitted_all args) (line at (by.Alloc (kind_of which)) ∷ []) (argument_nodes args) (all_within args) (omega arith)

  pub all_within : {n : _} (args : Args n) → AreWithin (emitted_all args) (argument_nodes args)
  all_within no_args = none_within
  all_within (more_args e rest) = more_within (emitted e) (emitted_all rest) (expression_nodes e) (argument_nodes rest) (within e) (all_within rest)

-- The same of expressions in a list.
abbrev pub total : List Expr → ℕ
total [] = 0
total (e ∷ es) = expression_nodes e + total es

pub each_within : (es : List Expr) → AreWithin (emitted_each es) (total es)
each_within [] = none_within
each_within (e ∷ es) = more_within (emitted e) (emitted_each es) (expression_nodes e) (total es) (within e) (each_within es)

total_listed : {n : _} (args : Args n) → total (listed args) ≡ argument_nodes args
total_listed no_args = refl
total_listed (more_args e rest) = ap (λ n. expression_nodes e + n) (total_listed rest)

-- Its parts have one node less than an expression.
pub parts_total : (e : Expr) → suc (total (parts_of e)) ≡ expression_nodes e
unfolding parts_of
parts_total (Word word) = refl
parts_total (Slot slot) = refl
parts_total (Un at op e) = omega arith
parts_total (Bin at op l r) = omega arith
parts_total (Both at l r) = omega arith
parts_total (Either at l r) = omega arith
parts_total (Load at a) = omega arith
parts_total (Call' at g n args) = ap suc (total_listed args)
parts_total (Post at op a v) = omega arith
parts_total (Add at a v) = omega arith
parts_total (Swap at a v) = omega arith
parts_total (Cas at a x v) = omega arith
parts_total (Init at a v) = omega arith
parts_total Fence = refl
parts_total (Move at a) = omega arith
parts_total Where = refl
parts_total (Print' format n args) = ap suc (total_listed args)
parts_total (Alloc' at which n args) = ap suc (total_listed args)

pub each_listed : {n : _} (args : Args n) → emitted_each (listed args) ≡ emitted_all args
each_listed no_args = refl
each_listed (more_args e rest) = ap (λ l. emitted e ∷ l) (each_listed rest)

-- It has so many lines more than they.
pub parts_size : (e : Expr) → (emitted e).size ≡ own_size e + (in_order (emitted_each (parts_of e))).size
unfolding parts_of own_size
parts_size (Word word) = refl
parts_size (Slot slot) = refl
parts_size (Un at op e) = omega arith
parts_size (Bin at op l r) = omega arith
parts_size (Both at l r) = omega arith
parts_size (Either at l r) = omega arith
parts_size (Load at a) = omega arith
parts_size (Call' at g n args) = let e = ap (λ ps. (in_order ps).size) (each_listed args) in omega arith
parts_size (Post at op a v) = omega arith
parts_size (Add at a v) = omega arith
parts_size (Swap at a v) = omega arith
parts_size (Cas at a x v) = omega arith
parts_size (Init at a v) = omega arith
parts_size Fence = refl
parts_size (Move at a) = omega arith
parts_size Where = refl
parts_size (Print' format n args) = let e = ap (λ ps. (in_order ps).size) (each_listed args) in omega arith
parts_size (Alloc' at which n args) = let e = ap (λ ps. (in_order ps).size) (each_listed args) in omega arith

pub nodes_above : (e : Expr) → 1 ≤ expression_nodes e
nodes_above e = omega (arith, parts_total e)
