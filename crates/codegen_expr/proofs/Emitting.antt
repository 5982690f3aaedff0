-- How a draft gains the code of an expression.
use Rattle.std.proofs.Common.{◌≡◌, ℕ, suc, ◌+◌, ◌*◌, ◌≤◌, ◌<◌, List, [], ◌∷◌, ◌++◌, length, refl, sym, ap, ◌∙◌, subst, arith, length-append, take, Some, true, false}
use Rattle.std.proofs.lemmas.List.{take_all}
use Rattle.std.specs.Prelude.{max, slice_get}
use Rattle.word_ops.specs.declared.place.Pos.{Pos}
use Rattle.cilk_ast.specs.declared.program.Expr as code
use Rattle.cilk_ast.specs.declared.program.Expr.{Expr, Word, Slot, Call', Fence, Where, Print', Alloc'}
use Rattle.cilk_ast.specs.Expression.{Un, Bin, Both, Either, Load, Post, Add, Swap, Cas, Init, Move, listed}
use Rattle.cilk_ast.specs.Nodes.{expression_nodes}
use Rattle.cilk_ast.proofs.ExpressionForms.{both_form, either_form}
use Rattle.threadlet_code.specs.declared.instr.Instr.TheVariants as by
use Rattle.codegen_expr.specs.declared.draft.Draft.{Draft}
use Rattle.codegen_expr.specs.Piece.{Line, line, Piece, in_order, judging, skipping}
use Rattle.codegen_expr.specs.Emitted.{emitted, emitted_all, emitted_each}
use Rattle.codegen_expr.specs.Parts.{parts_of, is_choice, own_formats, own_lines}
use Rattle.codegen_expr.specs.Gains.{Gains, GainsPiece, GainsValue, HasRoom}
use Rattle.codegen_expr.proofs.Emits.{sized}
use Rattle.codegen_expr.proofs.Bounds.{within, each_within, each_listed, total}
use Rattle.codegen_expr.proofs.Gained.{append_nil, gains_as, gains_then, body_length, formats_length, room_left}
use Rattle.codegen_expr.proofs.Taken.{each_sized, each_count, formats_more, rise_more, lines_more, take_next}

-- ---- parts one behind the other

abbrev pub GainsAll : Draft → Draft → List Expr → Type 0
GainsAll a b es = GainsPiece a b (in_order (emitted_each es)) (length es)

pub none_gained : (a : Draft) (more : ℕ) → HasRoom a more → GainsAll a a []
none_gained a more room = let r = room.highest in record {
  function = refl;
  slots = refl;
  body = sym (append_nil a.body);
  places = sym (append_nil a.places);
  formats = sym (append_nil a.formats);
  depth = omega arith;
  height = omega arith;
}

-- A gain where the draft that gains is known by what it gained before.
pub at_draft : (a b d : Draft) (e : Expr) (place first depth : ℕ) → length b.body ≡ place → length b.formats ≡ first → b.depth ≡ depth → GainsValue b d e →
    Gains b d ((emitted e).lines place first) (emitted e).formats (depth + 1) (depth + (emitted e).rise)
at_draft a b d e place first depth p f h g =
    gains_as b d ((emitted e).lines (length b.body) (length b.formats)) ((emitted e).lines place first) (emitted e).formats (emitted e).formats (b.depth + 1) (depth + 1) (b.depth + (emitted e).rise) (depth + (emitted e).rise)
    (ap (λ n. (emitted e).lines n (length b.formats)) p ∙ ap ((emitted e).lines place) f) refl (ap (λ n. n + 1) h) (ap (λ n. n + (emitted e).rise) h) g

pub more_gained : (a b d : Draft) (es : List Expr) (e : Expr) → GainsAll a b es → GainsValue b d e → GainsAll a d (es ++ e ∷ [])
more_gained a b d es e p q =
    let ps = in_order (emitted_each es) in
    let place = length a.body in
    let first = length a.formats in
    let n = body_length a b (ps.lines place first) ps.formats (a.depth + length es) (a.depth + ps.rise) p in
    let m = formats_length a b (ps.lines place first) ps.formats (a.depth + length es) (a.depth + ps.rise) p in
    let at : length b.body ≡ place + ps.size = n ∙ ap (λ k. place + k) (each_sized es place first) in
    let q' = at_draft a b d e (place + ps.size) (first + length ps.formats) (a.depth + length es) at m p.depth q in
    let all = gains_then a b d (ps.lines place first) ((emitted e).lines (place + ps.size) (first + length ps.formats)) ps.formats (emitted e).formats (a.depth + length es) (a.depth + length es + 1) (a.depth + ps.rise) (a.depth + length es + (emitted e).rise) p q' in
    gains_as a d _ ((in_order (emitted_each (es ++ e ∷ []))).lines place first) (ps.formats ++ (emitted e).formats) (in_order (emitted_each (es ++ e ∷ []))).formats
    (a.depth + length es + 1) (a.depth + length (es ++ e ∷ [])) (max (a.depth + ps.rise) (a.depth + length es + (emitted e).rise)) (a.depth + (in_order (emitted_each (es ++ e ∷ []))).rise)
    (sym (lines_more es e place first)) (sym (formats_more es e)) (omega (arith, length-append es (e ∷ []))) (omega (arith, rise_more es e)) all

pub next_gained : (a b d : Draft) (whole : Expr) (i : ℕ) (e : Expr) → i < length (parts_of whole) → slice_get (parts_of whole) i ≡ Some e →
    GainsAll a b (take i (parts_of whole)) → GainsValue b d e → GainsAll a d (take (i + 1) (parts_of whole))
next_gained a b d whole i e lt is p q =
    subst (GainsAll a d) (sym (take_next (parts_of whole) i e lt is)) (more_gained a b d (take i (parts_of whole)) e p q)

-- Room behind the parts that were taken.
pub room_behind : (a b : Draft) (es : List Expr) (m more : ℕ) → HasRoom a more → 8 * total es + m ≤ more → GainsAll a b es → HasRoom b m
room_behind a b es m more room le p =
    let ps = in_order (emitted_each es) in
    let w = each_within es in
    let s = w.size in let f = w.formats in let r = w.rises in
    let c = w.count in let e = each_count es in
    room_left a b (ps.lines (length a.body) (length a.formats)) ps.formats (a.depth + length es) (a.depth + ps.rise) m more p room
    (omega (arith, each_sized es (length a.body) (length a.formats))) (omega arith) (omega arith) (omega arith)

-- ---- an expression that is no choice

record IsDone (whole : Expr) (es : List Expr) : Type 0 where
  lines : (place first : ℕ) → (emitted whole).lines place first ≡ (in_order (emitted_each es)).lines place first ++ own_lines (first + length (in_order (emitted_each es)).formats) whole
  formats : (emitted whole).formats ≡ (in_order (emitted_each es)).formats ++ own_formats whole
  rise : (emitted whole).rise ≡ max (in_order (emitted_each es)).rise 1

done_by : (whole : Expr) (es : List Expr) (ps : List Piece) → emitted_each es ≡ ps →
    ((place first : ℕ) → (emitted whole).lines place first ≡ (in_order ps).lines place first ++ own_lines (first + length (in_order ps).formats) whole) →
    (emitted whole).formats ≡ (in_order ps).formats ++ own_formats whole → (emitted whole).rise ≡ max (in_order ps).rise 1 → IsDone whole es
done_by whole es ps e lines formats rise = record {
  lines = λ place first. lines place first ∙ ap (λ ps. (in_order ps).lines place first ++ own_lines (first + length (in_order ps).formats) whole) (sym e);
  formats = formats ∙ ap (λ ps. (in_order ps).formats ++ own_formats whole) (sym e);
  rise = rise ∙ ap (λ ps. max (in_order ps).rise 1) (sym e);
}

is_done : (whole : Expr) → is_choice whole ≡ false → IsDone whole (parts_of whole)
unfolding parts_of is_choice own_formats own_lines
is_done (Word word) plain = record { lines = λ place first. refl; formats = refl; rise = refl }
is_done (Slot slot) plain = record { lines = λ place first. refl; formats = refl; rise = refl }
is_done (Un at op e) plain = record { lines = λ place first. refl; formats = sym (append_nil _); rise = refl }
is_done (Bin at op l r) plain = record { lines = λ place first. refl; formats = sym (append_nil _); rise = refl }
is_done (Both at l r) plain = absurd (let wrong : true ≡ false = plain in cc)
is_done (Either at l r) plain = absurd (let wrong : true ≡ false = plain in cc)
is_done (Load at a) plain = record { lines = λ place first. refl; formats = sym (append_nil _); rise = refl }
is_done (Call' at g n args) plain = done_by _ (listed args) (emitted_all args) (each_listed args) (λ place first. refl) (sym (append_nil _)) refl
is_done (Post at op a v) plain = record { lines = λ place first. refl; formats = sym (append_nil _); rise = refl }
is_done (Add at a v) plain = record { lines = λ place first. refl; formats = sym (append_nil _); rise = refl }
is_done (Swap at a v) plain = record { lines = λ place first. refl; formats = sym (append_nil _); rise = refl }
is_done (Cas at a x v) plain = record { lines = λ place first. refl; formats = sym (append_nil _); rise = refl }
is_done (Init at a v) plain = record { lines = λ place first. refl; formats = sym (append_nil _); rise = refl }
is_done Fence plain = record { lines = λ place first. refl; formats = refl; rise = refl }
is_done (Move at a) plain = record { lines = λ place first. refl; formats = sym (append_nil _); rise = refl }
is_done Where plain = record { lines = λ place first. refl; formats = refl; rise = refl }
is_done (Print' format n args) plain = done_by _ (listed args) (emitted_all args) (each_listed args) (λ place first. refl) refl refl
is_done (Alloc' at which n args) plain = done_by _ (listed args) (emitted_all args) (each_listed args) (λ place first. refl) (sym (append_nil _)) refl

pub finished_gained : (a b d : Draft) (whole : Expr) (i : ℕ) → is_choice whole ≡ false → length (parts_of whole) ≤ i → GainsAll a b (take i (parts_of whole)) →
    Gains b d (own_lines (length b.formats) whole) (own_formats whole) (a.depth + 1) (a.depth + 1) → GainsValue a d whole
finished_gained a b d whole i plain le p q =
    let es = parts_of whole in
    let p' : GainsAll a b es = subst (GainsAll a b) (take_all i es le) p in
    let ps = in_order (emitted_each es) in
    let place = length a.body in
    let first = length a.formats in
    let done = is_done whole plain in
    let m = formats_length a b (ps.lines place first) ps.formats (a.depth + length es) (a.depth + ps.rise) p' in
    let all = gains_then a b d (ps.lines place first) (own_lines (length b.formats) whole) ps.formats (own_formats whole) (a.depth + length es) (a.depth + 1) (a.depth + ps.rise) (a.depth + 1) p' q in
    gains_as a d (ps.lines place first ++ own_lines (length b.formats) whole) ((emitted whole).lines place first) (ps.formats ++ own_formats whole) (emitted whole).formats
    (a.depth + 1) (a.depth + 1) (max (a.depth + ps.rise) (a.depth + 1)) (a.depth + (emitted whole).rise)
    (ap (λ k. ps.lines place first ++ own_lines k whole) m ∙ sym (done.lines place first)) (sym done.formats) refl (let r = done.rise in omega arith) all

-- ---- choices

pub both_nodes : (whole : Expr) (at : Pos) (l r : Expr) → whole ≡ code.Both at l r → expression_nodes whole ≡ suc (expression_nodes l + expression_nodes r)
both_nodes whole at l r is = ap expression_nodes (is ∙ both_form at l r)

pub either_nodes : (whole : Expr) (at : Pos) (l r : Expr) → whole ≡ code.Either at l r → expression_nodes whole ≡ suc (expression_nodes l + expression_nodes r)
either_nodes whole at l r is = ap expression_nodes (is ∙ either_form at l r)

both_made : (a b c f g : Draft) (at : Pos) (l r : Expr) (size : ℕ) → size ≡ (emitted r).size → GainsValue a b l →
    Gains b c (line at (by.JumpZero (suc (length b.body) + size + 3)) ∷ []) [] a.depth a.depth → GainsValue c f r →
    Gains f g (judging at (length f.body)) [] (a.depth + 1) (a.depth + 1) → GainsValue a g (Both at l r)
both_made a b c f g at l r size is p t q j =
    let place = length a.body in
    let first = length a.formats in
    let left = emitted l in
    let right = emitted r in
    let d = a.depth in
    let xs = left.lines place first in
    let nb = body_length a b xs left.formats (d + 1) (d + left.rise) p in
    let fb = formats_length a b xs left.formats (d + 1) (d + left.rise) p in
    let second = suc (place + left.size) in
    let judge = second + right.size in
    let test : List Line = line at (by.JumpZero (judge + 3)) ∷ [] in
    let sl = sized l place first in
    let goes : suc (length b.body) + size + 3 ≡ judge + 3 = omega arith in
    let t' = gains_as b c (line at (by.JumpZero (suc (length b.body) + size + 3)) ∷ []) test [] [] d d d d (ap (λ n. line at (by.JumpZero n) ∷ []) goes) refl refl refl t in
    let nc = body_length b c test [] d d t' in
    let fc = formats_length b c test [] d d t' in
    let number = first + length left.formats in
    let ys = right.lines second number in
    let q' = at_draft a c f r second number d (omega arith) (omega arith) t'.depth q in
    let nf = body_length c f ys right.formats (d + 1) (d + right.rise) q' in
    let sr = sized r second number in
    let at_judge : length f.body ≡ judge = omega arith in
    let j' = gains_as f g (judging at (length f.body)) (judging at judge) [] [] (d + 1) (d + 1) (d + 1) (d + 1) (ap (judging at) at_judge) refl refl refl j in
    let back = gains_then c f g ys (judging at judge) right.formats [] (d + 1) (d + 1) (d + right.rise) (d + 1) q' j' in
    let rest = gains_then b c g test (ys ++ judging at judge) [] (right.formats ++ []) d (d + 1) d (max (d + right.rise) (d + 1)) t' back in
    let all = gains_then a b g xs (test ++ (ys ++ judging at judge)) left.formats (right.formats ++ []) (d + 1) (d + 1) (d + left.rise) (max d (max (d + right.rise) (d + 1))) p rest in
    let rr = (within r).rises in
    gains_as a g (xs ++ (test ++ (ys ++ judging at judge))) ((emitted (Both at l r)).lines place first) (left.formats ++ (right.formats ++ [])) (left.formats ++ right.formats) (d + 1) (d + 1)
    (max (d + left.rise) (max d (max (d + right.rise) (d + 1)))) (d + max left.rise right.rise)
    refl (ap (λ k. left.formats ++ k) (append_nil right.formats)) refl (omega arith) all

either_made : (a b c f g : Draft) (at : Pos) (l r : Expr) (size : ℕ) → size ≡ (emitted r).size → GainsValue a b l →
    Gains b c (skipping at (suc (suc (suc (length b.body)))) (suc (suc (suc (length b.body))) + size + 4)) [] a.depth (a.depth + 1) → GainsValue c f r →
    Gains f g (judging at (length f.body)) [] (a.depth + 1) (a.depth + 1) → GainsValue a g (Either at l r)
either_made a b c f g at l r size is p t q j =
    let place = length a.body in
    let first = length a.formats in
    let left = emitted l in
    let right = emitted r in
    let d = a.depth in
    let xs = left.lines place first in
    let nb = body_length a b xs left.formats (d + 1) (d + left.rise) p in
    let fb = formats_length a b xs left.formats (d + 1) (d + left.rise) p in
    let second = suc (suc (suc (place + left.size))) in
    let judge = second + right.size in
    let test : List Line = skipping at second (judge + 4) in
    let sl = sized l place first in
    let here = suc (suc (suc (length b.body))) in
    let from : here ≡ second = omega arith in
    let goes : here + size + 4 ≡ judge + 4 = omega arith in
    let t' = gains_as b c (skipping at here (here + size + 4)) test [] [] d d (d + 1) (d + 1) (ap (λ n. skipping at n (here + size + 4)) from ∙ ap (skipping at second) goes) refl refl refl t in
    let nc = body_length b c test [] d (d + 1) t' in
    let fc = formats_length b c test [] d (d + 1) t' in
    let number = first + length left.formats in
    let ys = right.lines second number in
    let q' = at_draft a c f r second number d (omega arith) (omega arith) t'.depth q in
    let nf = body_length c f ys right.formats (d + 1) (d + right.rise) q' in
    let sr = sized r second number in
    let at_judge : length f.body ≡ judge = omega arith in
    let j' = gains_as f g (judging at (length f.body)) (judging at judge) [] [] (d + 1) (d + 1) (d + 1) (d + 1) (ap (judging at) at_judge) refl refl refl j in
    let back = gains_then c f g ys (judging at judge) right.formats [] (d + 1) (d + 1) (d + right.rise) (d + 1) q' j' in
    let rest = gains_then b c g test (ys ++ judging at judge) [] (right.formats ++ []) d (d + 1) (d + 1) (max (d + right.rise) (d + 1)) t' back in
    let all = gains_then a b g xs (test ++ (ys ++ judging at judge)) left.formats (right.formats ++ []) (d + 1) (d + 1) (d + left.rise) (max (d + 1) (max (d + right.rise) (d + 1))) p rest in
    let rr = (within r).rises in
    gains_as a g (xs ++ (test ++ (ys ++ judging at judge))) ((emitted (Either at l r)).lines place first) (left.formats ++ (right.formats ++ [])) (left.formats ++ right.formats) (d + 1) (d + 1)
    (max (d + left.rise) (max (d + 1) (max (d + right.rise) (d + 1)))) (d + max left.rise right.rise)
    refl (ap (λ k. left.formats ++ k) (append_nil right.formats)) refl (omega arith) all

pub both_gained : (a b c f g : Draft) (whole : Expr) (at : Pos) (l r : Expr) (size : ℕ) → whole ≡ code.Both at l r → size ≡ (emitted r).size → GainsValue a b l →
    Gains b c (line at (by.JumpZero (suc (length b.body) + size + 3)) ∷ []) [] a.depth a.depth → GainsValue c f r →
    Gains f g (judging at (length f.body)) [] (a.depth + 1) (a.depth + 1) → GainsValue a g whole
both_gained a b c f g whole at l r size is same p t q j =
    subst (GainsValue a g) (sym (is ∙ both_form at l r)) (both_made a b c f g at l r size same p t q j)

pub either_gained : (a b c f g : Draft) (whole : Expr) (at : Pos) (l r : Expr) (size : ℕ) → whole ≡ code.Either at l r → size ≡ (emitted r).size → GainsValue a b l →
    Gains b c (skipping at (suc (suc (suc (length b.body)))) (suc (suc (suc (length b.body))) + size + 4)) [] a.depth (a.depth + 1) → GainsValue c f r →
    Gains f g (judging at (length f.body)) [] (a.depth + 1) (a.depth + 1) → GainsValue a g whole
either_gained a b c f g whole at l r size is same p t q j =
    subst (GainsValue a g) (sym (is ∙ either_form at l r)) (either_made a b c f g at l r size same p t q j)

-- ---- room in a choice

pub room_less : (a : Draft) (m more : ℕ) → HasRoom a more → m ≤ more → HasRoom a m
room_less a m more room le = let p = room.body in let q = room.formats in let r = room.depth in
    record { body = omega arith; formats = omega arith; depth = omega arith; highest = room.highest }

-- Behind the first part.
pub room_first : (a b : Draft) (l : Expr) (m more : ℕ) → HasRoom a more → 8 * expression_nodes l + m ≤ more + 6 → GainsValue a b l → HasRoom b m
room_first a b l m more room le p =
    let w = within l in
    let s = w.size in let f = w.formats in let r = w.rises in
    room_left a b ((emitted l).lines (length a.body) (length a.formats)) (emitted l).formats (a.depth + 1) (a.depth + (emitted l).rise) m more p room
    (omega (arith, sized l (length a.body) (length a.formats))) (omega arith) (omega arith) (omega arith)

-- Behind the test.
pub room_test : (b c : Draft) (xs : List Line) (depth highest m more : ℕ) → HasRoom b more → length xs + m ≤ more → depth ≤ b.depth → Gains b c xs [] depth highest → HasRoom c m
room_test b c xs depth highest m more room le low p = let h = room.highest in
    room_left b c xs [] depth highest m more p room le (omega arith) (omega arith) (omega arith)

-- ---- what is no choice

pub no_choice : (e : Expr) → ((at : Pos) (l r : Expr) → e ≡ code.Both at l r → ⊥) → ((at : Pos) (l r : Expr) → e ≡ code.Either at l r → ⊥) → is_choice e ≡ false
unfolding is_choice
no_choice (Both at l r) not_both not_either = absurd (not_both at l r (sym (both_form at l r)))
no_choice (Either at l r) not_both not_either = absurd (not_either at l r (sym (either_form at l r)))
no_choice _ not_both not_either = refl
