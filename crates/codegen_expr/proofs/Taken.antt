-- The first parts of an expression, and one more.
use Rattle.std.proofs.lemmas.List.{take_more, take_all}
use Rattle.std.proofs.lemmas.Option.{get_or_from_slice_get}
use Rattle.std.proofs.Common.{◌≡◌, ℕ, zero, suc, ◌+◌, ◌*◌, ◌≤◌, ◌<◌, List, [], ◌∷◌, ◌++◌, length, refl, sym, ap, ◌∙◌, arith, append_assoc, length-append, take, Some}
use Rattle.std.specs.Prelude.{max, slice_get}
use Rattle.cilk_ast.specs.declared.program.Expr.{Expr}
use Rattle.cilk_ast.specs.Nodes.{expression_nodes}
use Rattle.codegen_expr.specs.Piece.{in_order}
use Rattle.codegen_expr.specs.Emitted.{emitted, emitted_each}
use Rattle.codegen_expr.specs.Parts.{parts_of, own_size}
use Rattle.codegen_expr.proofs.Makes.{IsSized}
use Rattle.codegen_expr.proofs.Emits.{in_order_more, sized}
use Rattle.codegen_expr.proofs.Gained.{append_nil}
use Rattle.codegen_expr.proofs.Bounds.{within, total, parts_total, parts_size}

pub each_sized : (es : List Expr) → IsSized (in_order (emitted_each es))
each_sized [] = λ place first. refl
each_sized (e ∷ es) = in_order_more (emitted e) (emitted_each es) (sized e) (each_sized es)

pub each_count : (es : List Expr) → length (emitted_each es) ≡ length es
each_count [] = refl
each_count (e ∷ es) = ap suc (each_count es)

-- ---- one more expression

pub size_more : (es : List Expr) (e : Expr) → (in_order (emitted_each (es ++ e ∷ []))).size ≡ (in_order (emitted_each es)).size + (emitted e).size
size_more [] e = omega arith
size_more (x ∷ es) e = omega (arith, size_more es e)

pub formats_more : (es : List Expr) (e : Expr) → (in_order (emitted_each (es ++ e ∷ []))).formats ≡ (in_order (emitted_each es)).formats ++ (emitted e).formats
formats_more [] e = append_nil (emitted e).formats
formats_more (x ∷ es) e = ap (λ l. (emitted x).formats ++ l) (formats_more es e) ∙ sym (append_assoc (emitted x).formats (in_order (emitted_each es)).formats (emitted e).formats)

pub rise_more : (es : List Expr) (e : Expr) → (in_order (emitted_each (es ++ e ∷ []))).rise ≡ max (in_order (emitted_each es)).rise (length es + (emitted e).rise)
rise_more [] e = let r = (within e).rises in omega arith
rise_more (x ∷ es) e = let r = (within e).rises in omega (arith, rise_more es e)

pub lines_more : (es : List Expr) (e : Expr) (place first : ℕ) → (in_order (emitted_each (es ++ e ∷ []))).lines place first
    ≡ (in_order (emitted_each es)).lines place first ++ (emitted e).lines (place + (in_order (emitted_each es)).size) (first + length (in_order (emitted_each es)).formats)
lines_more [] e place first =
    let p : place ≡ place + 0 = omega arith in let f : first ≡ first + 0 = omega arith in
    append_nil ((emitted e).lines place first) ∙ ap (λ q. (emitted e).lines q first) p ∙ ap (λ g. (emitted e).lines (place + 0) g) f
lines_more (x ∷ es) e place first =
    let piece = emitted x in
    let rest = in_order (emitted_each es) in
    let q = place + piece.size in
    let g = first + length piece.formats in
    let p : q + rest.size ≡ place + (piece.size + rest.size) = omega arith in
    let f : g + length rest.formats ≡ first + length (piece.formats ++ rest.formats) = omega (arith, length-append piece.formats rest.formats) in
    let c = piece.lines place first in
    ap (λ l. c ++ l) (lines_more es e q g) ∙ sym (append_assoc c (rest.lines q g) ((emitted e).lines (q + rest.size) (g + length rest.formats)))
    ∙ ap (λ m. (c ++ rest.lines q g) ++ (emitted e).lines m (g + length rest.formats)) p
    ∙ ap (λ m. (c ++ rest.lines q g) ++ (emitted e).lines (place + (piece.size + rest.size)) m) f

-- ---- the parts that were taken, and the next

pub take_next : (es : List Expr) (i : ℕ) (e : Expr) → i < length es → slice_get es i ≡ Some e → take (i + 1) es ≡ take i es ++ e ∷ []
take_next es i e lt is = take_more es i e lt ∙ ap (λ x. take i es ++ x ∷ []) (get_or_from_slice_get es i e e is)

pub total_append : (xs ys : List Expr) → total (xs ++ ys) ≡ total xs + total ys
total_append [] ys = omega arith
total_append (x ∷ xs) ys = omega (arith, total_append xs ys)

pub total_taken : (i : ℕ) (es : List Expr) → total (take i es) ≤ total es
total_taken zero es = omega arith
total_taken (suc i) [] = omega arith
total_taken (suc i) (e ∷ es) = omega (arith, total_taken i es)

pub size_taken : (i : ℕ) (es : List Expr) → (in_order (emitted_each (take i es))).size ≤ (in_order (emitted_each es)).size
size_taken zero es = omega arith
size_taken (suc i) [] = omega arith
size_taken (suc i) (e ∷ es) = omega (arith, size_taken i es)

-- The parts taken and the next have fewer nodes than the expression.
pub next_less : (whole : Expr) (i : ℕ) (e : Expr) → i < length (parts_of whole) → slice_get (parts_of whole) i ≡ Some e →
    suc (total (take i (parts_of whole)) + expression_nodes e) ≤ expression_nodes whole
next_less whole i e lt is =
    let ps = parts_of whole in
    let n = ap total (take_next ps i e lt is) in
    omega (arith, n, total_append (take i ps) (e ∷ []), total_taken (i + 1) ps, parts_total whole)

-- How long the code is of the parts taken, of the next, and of the expression itself.
pub next_size : (whole : Expr) (i : ℕ) (e : Expr) → i < length (parts_of whole) → slice_get (parts_of whole) i ≡ Some e →
    (in_order (emitted_each (take (i + 1) (parts_of whole)))).size ≡ (in_order (emitted_each (take i (parts_of whole)))).size + (emitted e).size
next_size whole i e lt is = ap (λ es. (in_order (emitted_each es)).size) (take_next (parts_of whole) i e lt is) ∙ size_more (take i (parts_of whole)) e

pub next_within : (whole : Expr) (i : ℕ) → own_size whole + (in_order (emitted_each (take i (parts_of whole)))).size ≤ 8 * expression_nodes whole
next_within whole i = let s = (within whole).size in omega (arith, parts_size whole, size_taken i (parts_of whole))

pub all_size : (whole : Expr) (i : ℕ) → length (parts_of whole) ≤ i → own_size whole + (in_order (emitted_each (take i (parts_of whole)))).size ≡ (emitted whole).size
all_size whole i le = ap (λ es. own_size whole + (in_order (emitted_each es)).size) (take_all i (parts_of whole) le) ∙ sym (parts_size whole)
