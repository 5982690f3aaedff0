-- The code of a statement has as many lines as it says.
use Rattle.std.proofs.Common.{◌≡◌, ℕ, suc, ◌+◌, List, [], ◌∷◌, ◌++◌, length, refl, ap, arith, length-append, Bool, false, None}
use Rattle.std.specs.Prelude.{map}
use Rattle.word_ops.specs.declared.place.Pos.{Pos}
use Rattle.cilk_ast.specs.declared.program.Expr.{Expr}
use Rattle.cilk_ast.specs.declared.program.Stmt.{Stmt, Nothing, Block', Eval, Set, Store, AddTo, Spawn, Each, Break, Continue, Return, Sync, Row_of-Stmt as Stmts, end_of-Stmt as no_stmts, more_of-Stmt as more_stmts}
use Rattle.cilk_ast.specs.Statement.{If, Loop}
use Rattle.mem_atomics.specs.declared.op.Op.TheVariants as atomic
use Rattle.word_ops.specs.declared.operators.BinaryOp.TheVariants as op
use Rattle.threadlet_code.specs.declared.instr.Instr.TheVariants as by
use Rattle.codegen_expr.specs.Piece.{Line, line, placeless, Piece, in_order}
use Rattle.codegen_expr.specs.Emitted.{emitted, emitted_each}
use Rattle.codegen_expr.proofs.Makes.{IsSized}
use Rattle.codegen_expr.proofs.Emits.{sized}
use Rattle.codegen_expr.proofs.Taken.{each_sized}
use Rattle.codegen_stmt.specs.Stretch.{Stretch, using, adding, choosing, looping, spawning, bounded, spawning_one, counting, behind, returning}
use Rattle.codegen_stmt.specs.Compiled.{compiled, compiled_all, spawned_words, is_hinted}
use Rattle.codegen_stmt.proofs.Runs.{IsLong}

pub map_length : {A B : Type 0} (f : A → B) (xs : List A) → length (map f xs) ≡ length xs
map_length f [] = refl
map_length f (x ∷ xs) = ap suc (map_length f xs)

behind_long : (a b : Stretch) → IsLong a → IsLong b → IsLong (behind a b)
behind_long a b p q exits place first =
    let back = b.lines exits (place + a.size) (first + length a.formats) in
    omega (arith, p exits place first, q exits (place + a.size) (first + length a.formats), length-append (a.lines exits place first) back)

using_long : (es : List Expr) (own : List Line) → IsLong (using (emitted_each es) own)
using_long es own exits place first =
    let words = in_order (emitted_each es) in omega (arith, each_sized es place first, length-append (words.lines place first) own)

adding_long : (at : Pos) (l r : Piece) → IsSized l → IsSized r → IsLong (adding at l r)
adding_long at l r p q exits place first =
    let ys = r.lines (suc (suc (place + l.size))) (first + length l.formats) in
    let last : List Line = placeless (by.Bin op.Add) ∷ line at (by.Post atomic.Store) ∷ [] in
    omega (
      arith,
      p place first,
      q (suc (suc (place + l.size))) (first + length l.formats),
      length-append ys last,
      length-append (l.lines place first) (placeless by.Dup ∷ line at by.Load ∷ (ys ++ last)),
    )

choosing_long : (t : Piece) (a b : Stretch) → IsSized t → IsLong a → IsLong b → IsLong (choosing t a b)
choosing_long t a b p q r exits place first =
    let f = suc (place + t.size) in
    let second = suc (f + a.size) in
    let n = first + length t.formats in
    let ys = a.lines exits f n in
    let zs = b.lines exits second (n + length a.formats) in
    omega (
      arith,
      p place first,
      q exits f n,
      r exits second (n + length a.formats),
      length-append ys (placeless (by.Jump (second + b.size)) ∷ zs),
      length-append (t.lines place first) (placeless (by.JumpZero second) ∷ (ys ++ (placeless (by.Jump (second + b.size)) ∷ zs))),
    )

looping_long : (t : Piece) (s b : Stretch) → IsSized t → IsLong s → IsLong b → IsLong (looping t s b)
looping_long t s b p q r exits place first =
    let f = suc (suc (place + t.size)) in
    let then = f + b.size in
    let out = suc (then + s.size) in
    let n = first + length t.formats in
    let ys = b.lines (record { broken = out; continued = then }) f n in
    let zs = s.lines exits then (n + length b.formats) in
    let last : List Line = placeless (by.Jump place) ∷ [] in
    omega (
      arith,
      p (suc place) first,
      r (record { broken = out; continued = then }) f n,
      q exits then (n + length b.formats),
      length-append zs last,
      length-append ys (zs ++ last),
      length-append (t.lines (suc place) first) (placeless (by.JumpZero out) ∷ (ys ++ (zs ++ last))),
    )

spawning_long : (at : Pos) (kept : ℕ) (l h : Piece) (g : ℕ) (copies : List ℕ) → IsSized l → IsSized h → IsLong (spawning at kept l h g copies)
spawning_long at kept l h g copies p q exits place first =
    let head = suc (suc (place + l.size + h.size)) in
    let out = head + (length copies + 12) in
    let gets = map (λ slot. placeless (by.Get slot)) copies in
    let one : List Line = line at (by.Spawn g None false) ∷ [] in
    let tail = counting kept head ++ placeless by.Sync ∷ [] in
    let each_one = spawning_one at kept g copies in
    let rest = bounded kept out ++ (each_one ++ tail) in
    let ys = h.lines (suc (place + l.size)) (first + length l.formats) in
    let n1 : length each_one ≡ 2 + length copies = omega (arith, length-append gets one, map_length (λ slot. placeless (by.Get slot)) copies) in
    omega (
      arith,
      p place first,
      q (suc (place + l.size)) (first + length l.formats),
      n1,
      length-append each_one tail,
      length-append (bounded kept out) (each_one ++ tail),
      length-append ys (placeless (by.Set (suc kept)) ∷ placeless by.Turn ∷ rest),
      length-append (l.lines place first) (placeless (by.Set kept) ∷ (ys ++ (placeless (by.Set (suc kept)) ∷ placeless by.Turn ∷ rest))),
    )

module _ (spawns : Bool) (kept : ℕ) where
  mutual
    pub long : (b : Stmt) → IsLong (compiled spawns kept b)
    long Nothing = λ exits place first. refl
    long (Block' n body) = all_long body
    long (Eval e) = using_long (e ∷ []) (placeless by.Pop ∷ [])
    long (Set slot e) = using_long (e ∷ []) (placeless (by.Set slot) ∷ [])
    long (Store at l e) = using_long (l ∷ e ∷ []) (line at (by.Post atomic.Store) ∷ [])
    long (AddTo at l e) = adding_long at (emitted l) (emitted e) (sized l) (sized e)
    long (Spawn at target g hint args) = using_long (spawned_words hint args) (line at (by.Spawn g target (is_hinted hint)) ∷ [])
    long (If test a b) = choosing_long (emitted test) (compiled spawns kept a) (compiled spawns kept b) (sized test) (long a) (long b)
    long (Loop test s b) = looping_long (emitted test) (compiled spawns kept s) (compiled spawns kept b) (sized test) (long s) (long b)
    long (Each at l h g copies) = spawning_long at kept (emitted l) (emitted h) g copies (sized l) (sized h)
    long Break = λ exits place first. refl
    long Continue = λ exits place first. refl
    long (Return e) = using_long (e ∷ []) (returning spawns)
    long Sync = λ exits place first. refl

    pub all_long : {n : _} (row : Stmts n) → IsLong (compiled_all spawns kept row)
    all_long no_stmts = λ exits place first. refl
    all_long (more_stmts b rest) = behind_long (compiled spawns kept b) (compiled_all spawns kept rest) (long b) (all_long rest)
