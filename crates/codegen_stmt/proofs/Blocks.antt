-- Statements one behind the other.
use Rattle.std.proofs.Common.{◌≡◌, ℕ, ◌+◌, ◌<◌, List, [], ◌∷◌, ◌++◌, length, refl, sym, ap, ◌∙◌, subst, arith, append_assoc, length-append, take, Some}
use Rattle.std.specs.Prelude.{max, slice_get}
use Rattle.cilk_ast.specs.declared.program.Stmt as code
use Rattle.cilk_ast.specs.declared.program.Stmt.{Stmt, Block', Row_of-Stmt as Stmts, end_of-Stmt as no_stmts, more_of-Stmt as more_stmts}
use Rattle.cilk_ast.specs.declared.program.Stmt.TheBlock.{hidden-the_row-Stmt-0}
use Rattle.cilk_ast.specs.Statement.{listed}
use Rattle.cilk_ast.proofs.StatementForms.{listed_row, block_form}
use Rattle.codegen_expr.specs.declared.draft.Draft.{Draft}
use Rattle.codegen_expr.proofs.Gained.{append_nil, gains_as, gains_then, body_length, formats_length}
use Rattle.codegen_stmt.specs.declared.around.Around.{Around}
use Rattle.codegen_stmt.specs.Stretch.{Exits, Stretch, plain, behind}
use Rattle.codegen_stmt.specs.Compiled.{compiled_all}
use Rattle.codegen_stmt.specs.Compiling.{GainsStretch, stretch_of}
use Rattle.codegen_stmt.proofs.Runs.{IsLong}
use Rattle.codegen_stmt.proofs.Lengths.{long}
use Rattle.codegen_stmt.proofs.Small.{IsSmall, small, totals, child_next}
use Rattle.codegen_stmt.proofs.Joined.{at_stretch}

abbrev pub stretches : Around → List Stmt → Stretch
stretches around [] = plain []
stretches around (s ∷ rest) = behind (stretch_of around s) (stretches around rest)

stretches_listed : (around : Around) {n : _} (row : Stmts n) → stretches around (listed row) ≡ compiled_all around.spawns around.kept row
stretches_listed around no_stmts = refl
stretches_listed around (more_stmts s rest) = ap (behind (stretch_of around s)) (stretches_listed around rest)

pub block_stretch : (around : Around) (s : Stmt) (body : List Stmt) → s ≡ code.Block body → stretches around body ≡ stretch_of around s
block_stretch around s body is =
    ap (stretches around) (sym (listed_row body)) ∙ stretches_listed around (hidden-the_row-Stmt-0 body) ∙ sym (ap (stretch_of around) (is ∙ block_form body))

pub stretches_long : (around : Around) (rest : List Stmt) → IsLong (stretches around rest)
stretches_long around [] exits place first = refl
stretches_long around (s ∷ rest) exits place first =
    let x = stretch_of around s in
    let back = (stretches around rest).lines exits (place + x.size) (first + length x.formats) in
    omega (arith, long around.spawns around.kept s exits place first, stretches_long around rest exits (place + x.size) (first + length x.formats), length-append (x.lines exits place first) back)

pub stretches_small : (around : Around) (rest : List Stmt) → IsSmall (stretches around rest) (totals rest)
stretches_small around [] = record { size = omega arith; formats = omega arith }
stretches_small around (s ∷ rest) =
    let p = small around s in let q = stretches_small around rest in
    let a = p.size in let b = p.formats in let c = q.size in let d = q.formats in
    record { size = omega arith; formats = omega (arith, length-append (stretch_of around s).formats (stretches around rest).formats) }

-- ---- one more

size_more : (around : Around) (rest : List Stmt) (s : Stmt) → (stretches around (rest ++ s ∷ [])).size ≡ (stretches around rest).size + (stretch_of around s).size
size_more around [] s = omega arith
size_more around (x ∷ rest) s = omega (arith, size_more around rest s)

rise_more : (around : Around) (rest : List Stmt) (s : Stmt) → (stretches around (rest ++ s ∷ [])).rise ≡ max (stretches around rest).rise (stretch_of around s).rise
rise_more around [] s = omega arith
rise_more around (x ∷ rest) s = omega (arith, rise_more around rest s)

formats_more : (around : Around) (rest : List Stmt) (s : Stmt) → (stretches around (rest ++ s ∷ [])).formats ≡ (stretches around rest).formats ++ (stretch_of around s).formats
formats_more around [] s = append_nil (stretch_of around s).formats
formats_more around (x ∷ rest) s = ap (λ l. (stretch_of around x).formats ++ l) (formats_more around rest s) ∙ sym (append_assoc (stretch_of around x).formats (stretches around rest).formats (stretch_of around s).formats)

lines_more : (around : Around) (rest : List Stmt) (s : Stmt) (exits : Exits) (place first : ℕ) → (stretches around (rest ++ s ∷ [])).lines exits place first
    ≡ (stretches around rest).lines exits place first ++ (stretch_of around s).lines exits (place + (stretches around rest).size) (first + length (stretches around rest).formats)
lines_more around [] s exits place first =
    let x = stretch_of around s in
    let p : place ≡ place + 0 = omega arith in let f : first ≡ first + 0 = omega arith in
    append_nil (x.lines exits place first) ∙ ap (λ q. x.lines exits q first) p ∙ ap (λ g. x.lines exits (place + 0) g) f
lines_more around (y ∷ rest) s exits place first =
    let x = stretch_of around s in
    let piece = stretch_of around y in
    let others = stretches around rest in
    let q = place + piece.size in
    let g = first + length piece.formats in
    let p : q + others.size ≡ place + (piece.size + others.size) = omega arith in
    let f : g + length others.formats ≡ first + length (piece.formats ++ others.formats) = omega (arith, length-append piece.formats others.formats) in
    let c = piece.lines exits place first in
    ap (λ l. c ++ l) (lines_more around rest s exits q g) ∙ sym (append_assoc c (others.lines exits q g) (x.lines exits (q + others.size) (g + length others.formats)))
    ∙ ap (λ m. (c ++ others.lines exits q g) ++ x.lines exits m (g + length others.formats)) p
    ∙ ap (λ m. (c ++ others.lines exits q g) ++ x.lines exits (place + (piece.size + others.size)) m) f

pub more_stretched : (a b d : Draft) (around : Around) (rest : List Stmt) (s : Stmt) (exits : Exits) → GainsStretch a b (stretches around rest) exits → GainsStretch b d (stretch_of around s) exits →
    GainsStretch a d (stretches around (rest ++ s ∷ [])) exits
more_stretched a b d around rest s exits p q =
    let place = length a.body in
    let first = length a.formats in
    let xs = stretches around rest in
    let x = stretch_of around s in
    let front = xs.lines exits place first in
    let n = body_length a b front xs.formats 0 xs.rise p in
    let m = formats_length a b front xs.formats 0 xs.rise p in
    let l = stretches_long around rest exits place first in
    let q' = at_stretch b d x exits (place + xs.size) (first + length xs.formats) (omega arith) m q in
    let all = gains_then a b d front (x.lines exits (place + xs.size) (first + length xs.formats)) xs.formats x.formats 0 0 xs.rise x.rise p q' in
    gains_as a d (front ++ x.lines exits (place + xs.size) (first + length xs.formats)) ((stretches around (rest ++ s ∷ [])).lines exits place first) (xs.formats ++ x.formats) (stretches around (rest ++ s ∷ [])).formats
    0 0 (max xs.rise x.rise) (stretches around (rest ++ s ∷ [])).rise
    (sym (lines_more around rest s exits place first)) (sym (formats_more around rest s)) refl (sym (rise_more around rest s)) all

pub next_stretched : (a b d : Draft) (around : Around) (body : List Stmt) (i : ℕ) (s : Stmt) (exits : Exits) → i < length body → slice_get body i ≡ Some s →
    GainsStretch a b (stretches around (take i body)) exits → GainsStretch b d (stretch_of around s) exits → GainsStretch a d (stretches around (take (i + 1) body)) exits
next_stretched a b d around body i s exits lt is p q =
    subst (λ l. GainsStretch a d (stretches around l) exits) (sym (child_next body i s lt is)) (more_stretched a b d around (take i body) s exits p q)
