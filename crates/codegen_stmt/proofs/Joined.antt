-- What a draft gains by statements that are made of others.
use Rattle.std.proofs.Common.{◌≡◌, ℕ, suc, ◌+◌, ◌≤◌, ◌<◌, List, [], ◌∷◌, ◌++◌, length, refl, sym, ap, ◌∙◌, subst, arith, map, take}
use Rattle.std.specs.Prelude.{max, Some, slice_get}
use Rattle.std.proofs.lemmas.List.{take_more}
use Rattle.std.proofs.lemmas.Option.{get_or_from_slice_get}
use Rattle.word_ops.specs.declared.place.Pos.{Pos}
use Rattle.word_ops.specs.declared.operators.BinaryOp.TheVariants as op
use Rattle.mem_atomics.specs.declared.op.Op.TheVariants as atomic
use Rattle.threadlet_code.specs.declared.instr.Instr.TheVariants as by
use Rattle.codegen_expr.specs.declared.draft.Draft.{Draft}
use Rattle.codegen_expr.specs.Piece.{Line, Piece, line, placeless}
use Rattle.codegen_expr.specs.Gains.{Gains, GainsPiece, HasRoom}
use Rattle.codegen_expr.proofs.Makes.{IsSized}
use Rattle.codegen_expr.proofs.Gained.{append_nil, gains_as, gains_then, body_length, formats_length, room_left}
use Rattle.codegen_stmt.specs.Stretch.{Exits, Stretch, adding, choosing, looping, spawning, bounded, spawning_one, counting, behind}
use Rattle.codegen_stmt.specs.Compiling.{GainsStretch}
use Rattle.codegen_stmt.proofs.Runs.{IsLong}

-- A stretch, where the draft that gains it is known by what it gained before.
pub at_stretch : (b d : Draft) (x : Stretch) (exits : Exits) (place first : ℕ) → length b.body ≡ place → length b.formats ≡ first → GainsStretch b d x exits → Gains b d (x.lines exits place first) x.formats 0 x.rise
at_stretch b d x exits place first p f g =
    gains_as b d (x.lines exits (length b.body) (length b.formats)) (x.lines exits place first) x.formats x.formats 0 0 x.rise x.rise
    (ap (λ n. x.lines exits n (length b.formats)) p ∙ ap (x.lines exits place) f) refl refl refl g

-- The same of a piece, behind so many words.
pub at_piece : (b d : Draft) (x : Piece) (place first depth : ℕ) → length b.body ≡ place → length b.formats ≡ first → b.depth ≡ depth → GainsPiece b d x 1 → Gains b d (x.lines place first) x.formats (depth + 1) (depth + x.rise)
at_piece b d x place first depth p f h g =
    gains_as b d (x.lines (length b.body) (length b.formats)) (x.lines place first) x.formats x.formats (b.depth + 1) (depth + 1) (b.depth + x.rise) (depth + x.rise)
    (ap (λ n. x.lines n (length b.formats)) p ∙ ap (x.lines place) f) refl (ap (λ n. n + 1) h) (ap (λ n. n + x.rise) h) g

-- One line, whose target is known otherwise.
at_line : (b d : Draft) (to : ℕ → Line) (k n : ℕ) → k ≡ n → Gains b d (to k ∷ []) [] 0 0 → Gains b d (to n ∷ []) [] 0 0
at_line b d to k n e g = subst (λ m. Gains b d (to m ∷ []) [] 0 0) e g

pub behind_gained : (a b d : Draft) (x y : Stretch) (exits : Exits) → IsLong x → GainsStretch a b x exits → GainsStretch b d y exits → GainsStretch a d (behind x y) exits
behind_gained a b d x y exits long p q =
    let place = length a.body in
    let first = length a.formats in
    let xs = x.lines exits place first in
    let n = body_length a b xs x.formats 0 x.rise p in
    let m = formats_length a b xs x.formats 0 x.rise p in
    let s = long exits place first in
    let q' = at_stretch b d y exits (place + x.size) (first + length x.formats) (omega arith) m q in
    gains_then a b d xs (y.lines exits (place + x.size) (first + length x.formats)) x.formats y.formats 0 0 x.rise y.rise p q'

pub adding_gained : (a b c d e : Draft) (at : Pos) (x y : Piece) (exits : Exits) → IsSized x → IsSized y → 1 ≤ y.rise → a.depth ≡ 0 → GainsPiece a b x 1 →
    Gains b c (placeless by.Dup ∷ line at by.Load ∷ []) [] 2 2 → GainsPiece c d y 1 → Gains d e (placeless (by.Bin op.Add) ∷ line at (by.Post atomic.Store) ∷ []) [] 0 2 → GainsStretch a e (adding at x y) exits
adding_gained a b c d e at x y exits sx sy rises start p t q u =
    let place = length a.body in
    let first = length a.formats in
    let xs = x.lines place first in
    let double : List Line = placeless by.Dup ∷ line at by.Load ∷ [] in
    let last : List Line = placeless (by.Bin op.Add) ∷ line at (by.Post atomic.Store) ∷ [] in
    let nb = body_length a b xs x.formats (a.depth + 1) (a.depth + x.rise) p in
    let fb = formats_length a b xs x.formats (a.depth + 1) (a.depth + x.rise) p in
    let s = sx place first in
    let nc = body_length b c double [] 2 2 t in
    let fc = formats_length b c double [] 2 2 t in
    let q2 = suc (suc (place + x.size)) in
    let ys = y.lines q2 (first + length x.formats) in
    let q' = at_piece c d y q2 (first + length x.formats) 2 (omega arith) (omega arith) t.depth q in
    let back = gains_then c d e ys last y.formats [] 3 0 (2 + y.rise) 2 q' u in
    let rest = gains_then b c e double (ys ++ last) [] (y.formats ++ []) 2 0 2 (max (2 + y.rise) 2) t back in
    let all = gains_then a b e xs (double ++ (ys ++ last)) x.formats (y.formats ++ []) (a.depth + 1) 0 (a.depth + x.rise) (max 2 (max (2 + y.rise) 2)) p rest in
    gains_as a e (xs ++ (double ++ (ys ++ last))) ((adding at x y).lines exits place first) (x.formats ++ (y.formats ++ [])) (x.formats ++ y.formats) 0 0
    (max (a.depth + x.rise) (max 2 (max (2 + y.rise) 2))) (max x.rise (2 + y.rise))
    refl (ap (λ k. x.formats ++ k) (append_nil y.formats)) refl (omega arith) all

pub choosing_gained : (a b c d e f : Draft) (t : Piece) (x y : Stretch) (exits : Exits) (over past : ℕ) → IsSized t → IsLong x → IsLong y → a.depth ≡ 0 → GainsPiece a b t 1 →
    over ≡ x.size + 1 → Gains b c (placeless (by.JumpZero (suc (length b.body + over))) ∷ []) [] 0 0 → GainsStretch c d x exits →
    past ≡ y.size → Gains d e (placeless (by.Jump (suc (length d.body + past))) ∷ []) [] 0 0 → GainsStretch e f y exits → GainsStretch a f (choosing t x y) exits
choosing_gained a b c d e f t x y exits over past st lx ly start p over_is j q past_is k r =
    let place = length a.body in
    let first = length a.formats in
    let ts = t.lines place first in
    let nb = body_length a b ts t.formats (a.depth + 1) (a.depth + t.rise) p in
    let fb = formats_length a b ts t.formats (a.depth + 1) (a.depth + t.rise) p in
    let s = st place first in
    let start_x = suc (place + t.size) in
    let second = suc (start_x + x.size) in
    let n1 = first + length t.formats in
    let n2 = n1 + length x.formats in
    let test : List Line = placeless (by.JumpZero second) ∷ [] in
    let j' = at_line b c (λ n. placeless (by.JumpZero n)) (suc (length b.body + over)) second (omega arith) j in
    let nc = body_length b c test [] 0 0 j' in
    let fc = formats_length b c test [] 0 0 j' in
    let xs = x.lines exits start_x n1 in
    let q' = at_stretch c d x exits start_x n1 (omega arith) (omega arith) q in
    let nd = body_length c d xs x.formats 0 x.rise q' in
    let fd = formats_length c d xs x.formats 0 x.rise q' in
    let s2 = lx exits start_x n1 in
    let jump : List Line = placeless (by.Jump (second + y.size)) ∷ [] in
    let k' = at_line d e (λ n. placeless (by.Jump n)) (suc (length d.body + past)) (second + y.size) (omega arith) k in
    let ne = body_length d e jump [] 0 0 k' in
    let fe = formats_length d e jump [] 0 0 k' in
    let ys = y.lines exits second n2 in
    let r' = at_stretch e f y exits second n2 (omega arith) (omega arith) r in
    let g1 = gains_then d e f jump ys [] y.formats 0 0 0 y.rise k' r' in
    let g2 = gains_then c d f xs (jump ++ ys) x.formats y.formats 0 0 x.rise (max 0 y.rise) q' g1 in
    let g3 = gains_then b c f test (xs ++ (jump ++ ys)) [] (x.formats ++ y.formats) 0 0 0 (max x.rise (max 0 y.rise)) j' g2 in
    let all = gains_then a b f ts (test ++ (xs ++ (jump ++ ys))) t.formats (x.formats ++ y.formats) (a.depth + 1) 0 (a.depth + t.rise) (max 0 (max x.rise (max 0 y.rise))) p g3 in
    gains_as a f (ts ++ (test ++ (xs ++ (jump ++ ys)))) ((choosing t x y).lines exits place first) (t.formats ++ (x.formats ++ y.formats)) (t.formats ++ (x.formats ++ y.formats)) 0 0
    (max (a.depth + t.rise) (max 0 (max x.rise (max 0 y.rise)))) (max t.rise (max x.rise y.rise))
    refl refl refl (omega arith) all

pub looping_gained : (a z b c d e f : Draft) (t : Piece) (step_ x : Stretch) (exits own : Exits) (over : ℕ) → IsSized t → IsLong step_ → IsLong x →
    Gains a z (placeless by.Turn ∷ []) [] 0 0 → GainsPiece z b t 1 → over ≡ x.size + step_.size + 1 → Gains b c (placeless (by.JumpZero (suc (length b.body + over))) ∷ []) [] 0 0 →
    own.continued ≡ suc (length b.body) + x.size → own.broken ≡ suc (length b.body) + x.size + step_.size + 1 → GainsStretch c d x own → GainsStretch d e step_ exits →
    Gains e f (placeless (by.Jump (length a.body)) ∷ []) [] 0 0 → GainsStretch a f (looping t step_ x) exits
looping_gained a z b c d e f t step_ x exits own over st ls lx turn p over_is j con brk q r k =
    let place = length a.body in
    let first = length a.formats in
    let nz = body_length a z (placeless by.Turn ∷ []) [] 0 0 turn in
    let fz = formats_length a z (placeless by.Turn ∷ []) [] 0 0 turn in
    let ts = t.lines (suc place) first in
    let p' = at_piece z b t (suc place) first 0 (omega arith) (omega arith) turn.depth p in
    let nb = body_length z b ts t.formats 1 (0 + t.rise) p' in
    let fb = formats_length z b ts t.formats 1 (0 + t.rise) p' in
    let s = st (suc place) first in
    let start = suc (suc (place + t.size)) in
    let onto = start + x.size in
    let out = suc (onto + step_.size) in
    let n1 = first + length t.formats in
    let n2 = n1 + length x.formats in
    let exits' : Exits = record { broken = out; continued = onto } in
    let e1 : own.broken ≡ out = omega arith in
    let e2 : own.continued ≡ onto = omega arith in
    let q0 = subst (λ n. GainsStretch c d x (record { broken = own.broken; continued = n })) e2 q in
    let q1 = subst (λ n. GainsStretch c d x (record { broken = n; continued = onto })) e1 q0 in
    let test : List Line = placeless (by.JumpZero out) ∷ [] in
    let j' = at_line b c (λ n. placeless (by.JumpZero n)) (suc (length b.body + over)) out (omega arith) j in
    let nc = body_length b c test [] 0 0 j' in
    let fc = formats_length b c test [] 0 0 j' in
    let xs = x.lines exits' start n1 in
    let q' = at_stretch c d x exits' start n1 (omega arith) (omega arith) q1 in
    let nd = body_length c d xs x.formats 0 x.rise q' in
    let fd = formats_length c d xs x.formats 0 x.rise q' in
    let s2 = lx exits' start n1 in
    let ys = step_.lines exits onto n2 in
    let r' = at_stretch d e step_ exits onto n2 (omega arith) (omega arith) r in
    let jump : List Line = placeless (by.Jump place) ∷ [] in
    let g0 = gains_then d e f ys jump step_.formats [] 0 0 step_.rise 0 r' k in
    let g1 = gains_then c d f xs (ys ++ jump) x.formats (step_.formats ++ []) 0 0 x.rise (max step_.rise 0) q' g0 in
    let g2 = gains_then b c f test (xs ++ (ys ++ jump)) [] (x.formats ++ (step_.formats ++ [])) 0 0 0 (max x.rise (max step_.rise 0)) j' g1 in
    let g3 = gains_then z b f ts (test ++ (xs ++ (ys ++ jump))) t.formats (x.formats ++ (step_.formats ++ [])) 1 0 (0 + t.rise) (max 0 (max x.rise (max step_.rise 0))) p' g2 in
    let all = gains_then a z f (placeless by.Turn ∷ []) (ts ++ (test ++ (xs ++ (ys ++ jump)))) [] (t.formats ++ (x.formats ++ (step_.formats ++ []))) 0 0 0 (max (0 + t.rise) (max 0 (max x.rise (max step_.rise 0)))) turn g3 in
    gains_as a f (placeless by.Turn ∷ (ts ++ (test ++ (xs ++ (ys ++ jump))))) ((looping t step_ x).lines exits place first) (t.formats ++ (x.formats ++ (step_.formats ++ []))) (t.formats ++ (x.formats ++ step_.formats)) 0 0
    (max 0 (max (0 + t.rise) (max 0 (max x.rise (max step_.rise 0))))) (max t.rise (max x.rise step_.rise))
    refl (ap (λ l. t.formats ++ (x.formats ++ l)) (append_nil step_.formats)) refl (omega arith) all

pub spawning_gained : (a b c d e f : Draft) (at : Pos) (kept : ℕ) (x y : Piece) (g : ℕ) (copies : List ℕ) (exits : Exits) → IsSized x → IsSized y → a.depth ≡ 0 → GainsPiece a b x 1 →
    Gains b c (placeless (by.Set kept) ∷ []) [] 0 0 → GainsPiece c d y 1 → Gains d e (placeless (by.Set (suc kept)) ∷ []) [] 0 0 →
    Gains e f (placeless by.Turn ∷ (bounded kept (length e.body + (length copies + 12)) ++ (spawning_one at kept g copies ++ (counting kept (length e.body) ++ placeless by.Sync ∷ [])))) [] 0 (max 2 (suc (length copies))) →
    GainsStretch a f (spawning at kept x y g copies) exits
spawning_gained a b c d e f at kept x y g copies exits sx sy start p t q u r =
    let place = length a.body in
    let first = length a.formats in
    let xs = x.lines place first in
    let nb = body_length a b xs x.formats (a.depth + 1) (a.depth + x.rise) p in
    let fb = formats_length a b xs x.formats (a.depth + 1) (a.depth + x.rise) p in
    let s = sx place first in
    let set1 : List Line = placeless (by.Set kept) ∷ [] in
    let set2 : List Line = placeless (by.Set (suc kept)) ∷ [] in
    let nc = body_length b c set1 [] 0 0 t in
    let fc = formats_length b c set1 [] 0 0 t in
    let q2 = suc (place + x.size) in
    let n1 = first + length x.formats in
    let ys = y.lines q2 n1 in
    let q' = at_piece c d y q2 n1 0 (omega arith) (omega arith) t.depth q in
    let nd = body_length c d ys y.formats 1 (0 + y.rise) q' in
    let s2 = sy q2 n1 in
    let ne = body_length d e set2 [] 0 0 u in
    let head = suc (suc (place + x.size + y.size)) in
    let h : length e.body ≡ head = omega arith in
    let rounds = λ (k : ℕ). let l : List Line = placeless by.Turn ∷ (bounded kept (k + (length copies + 12)) ++ (spawning_one at kept g copies ++ (counting kept k ++ placeless by.Sync ∷ []))) in l in
    let r' = subst (λ k. Gains e f (rounds k) [] 0 (max 2 (suc (length copies)))) h r in
    let top = max 2 (suc (length copies)) in
    let g1 = gains_then d e f set2 (rounds head) [] [] 0 0 0 top u r' in
    let g2 = gains_then c d f ys (set2 ++ rounds head) y.formats [] 1 0 (0 + y.rise) (max 0 top) q' g1 in
    let g3 = gains_then b c f set1 (ys ++ (set2 ++ rounds head)) [] (y.formats ++ []) 0 0 0 (max (0 + y.rise) (max 0 top)) t g2 in
    let all = gains_then a b f xs (set1 ++ (ys ++ (set2 ++ rounds head))) x.formats (y.formats ++ []) (a.depth + 1) 0 (a.depth + x.rise) (max 0 (max (0 + y.rise) (max 0 top))) p g3 in
    gains_as a f (xs ++ (set1 ++ (ys ++ (set2 ++ rounds head)))) ((spawning at kept x y g copies).lines exits place first) (x.formats ++ (y.formats ++ [])) (x.formats ++ y.formats) 0 0
    (max (a.depth + x.rise) (max 0 (max (0 + y.rise) (max 0 top)))) (max (max x.rise y.rise) top)
    refl (ap (λ k. x.formats ++ k) (append_nil y.formats)) refl (omega arith) all

-- Room behind a stretch.
pub room_stretch : (a b : Draft) (x : Stretch) (exits : Exits) (m more : ℕ) → HasRoom a more → IsLong x → x.size + m ≤ more → length x.formats + m ≤ more → GainsStretch a b x exits → HasRoom b m
room_stretch a b x exits m more room long lines formats p =
    room_left a b (x.lines exits (length a.body) (length a.formats)) x.formats 0 x.rise m more p room (omega (arith, long exits (length a.body) (length a.formats))) formats (omega arith) (omega arith)

-- Room behind a few lines.
pub room_lines : (a b : Draft) (xs : List Line) (highest m more : ℕ) → HasRoom a more → length xs + m ≤ more → Gains a b xs [] 0 highest → HasRoom b m
room_lines a b xs highest m more room lines p = room_left a b xs [] 0 highest m more p room lines (omega arith) (omega arith) (omega arith)

-- ---- lines one behind the other

pub bounded_gained : (a b c d e : Draft) (x y z t : Line) → Gains a b (x ∷ []) [] 1 1 → Gains b c (y ∷ []) [] 2 2 → Gains c d (z ∷ []) [] 1 1 → Gains d e (t ∷ []) [] 0 0 →
    Gains a e (x ∷ y ∷ z ∷ t ∷ []) [] 0 2
bounded_gained a b c d e x y z t p q r s =
    gains_as a e (x ∷ y ∷ z ∷ t ∷ []) (x ∷ y ∷ z ∷ t ∷ []) [] [] 0 0 (max 1 (max 2 (max 1 0))) 2 refl refl refl (omega arith)
    (gains_then a b e (x ∷ []) (y ∷ z ∷ t ∷ []) [] [] 1 0 1 (max 2 (max 1 0)) p (gains_then b c e (y ∷ []) (z ∷ t ∷ []) [] [] 2 0 2 (max 1 0) q (gains_then c d e (z ∷ []) (t ∷ []) [] [] 1 0 1 0 r s)))

pub counting_gained : (a b c d e f : Draft) (x y z t u : Line) → Gains a b (x ∷ []) [] 1 1 → Gains b c (y ∷ []) [] 2 2 → Gains c d (z ∷ []) [] 1 1 → Gains d e (t ∷ []) [] 0 0 → Gains e f (u ∷ []) [] 0 0 →
    Gains a f (x ∷ y ∷ z ∷ t ∷ u ∷ []) [] 0 2
counting_gained a b c d e f x y z t u p q r s v =
    gains_as a f (x ∷ y ∷ z ∷ t ∷ u ∷ []) (x ∷ y ∷ z ∷ t ∷ u ∷ []) [] [] 0 0 (max 2 0) 2 refl refl refl (omega arith)
    (gains_then a e f (x ∷ y ∷ z ∷ t ∷ []) (u ∷ []) [] [] 0 0 2 0 (bounded_gained a b c d e x y z t p q r s) v)

pub double_gained : (a b c : Draft) (x y : Line) → Gains a b (x ∷ []) [] 2 2 → Gains b c (y ∷ []) [] 2 2 → Gains a c (x ∷ y ∷ []) [] 2 2
double_gained a b c x y p q = gains_as a c (x ∷ y ∷ []) (x ∷ y ∷ []) [] [] 2 2 (max 2 2) 2 refl refl refl (omega arith) (gains_then a b c (x ∷ []) (y ∷ []) [] [] 2 2 2 2 p q)

pub sum_gained : (a b c : Draft) (x y : Line) → Gains a b (x ∷ []) [] 2 2 → Gains b c (y ∷ []) [] 0 0 → Gains a c (x ∷ y ∷ []) [] 0 2
sum_gained a b c x y p q = gains_as a c (x ∷ y ∷ []) (x ∷ y ∷ []) [] [] 0 0 (max 2 0) 2 refl refl refl (omega arith) (gains_then a b c (x ∷ []) (y ∷ []) [] [] 2 0 2 0 p q)

pub child_gained : (a b c : Draft) (xs : List Line) (y : Line) (n : ℕ) → Gains a b xs [] (suc n) (suc n) → Gains b c (y ∷ []) [] 0 0 → Gains a c (xs ++ y ∷ []) [] 0 (suc n)
child_gained a b c xs y n p q = gains_as a c (xs ++ y ∷ []) (xs ++ y ∷ []) [] [] 0 0 (max (suc n) 0) (suc n) refl refl refl (omega arith) (gains_then a b c xs (y ∷ []) [] [] (suc n) 0 (suc n) 0 p q)

pub copy_gained : (a b c : Draft) (first : Line) (copies : List ℕ) (i slot : ℕ) → i < length copies → slice_get copies i ≡ Some slot →
    Gains a b (first ∷ map (λ slot. placeless (by.Get slot)) (take i copies)) [] (suc i) (suc i) → Gains b c (placeless (by.Get slot) ∷ []) [] (i + 2) (i + 2) →
    Gains a c (first ∷ map (λ slot. placeless (by.Get slot)) (take (i + 1) copies)) [] (suc (i + 1)) (suc (i + 1))
copy_gained a b c first copies i slot lt is p q =
    let get = λ (slot : ℕ). placeless (by.Get slot) in
    let next : take (i + 1) copies ≡ take i copies ++ slot ∷ [] = take_more copies i slot lt ∙ ap (λ x. take i copies ++ x ∷ []) (get_or_from_slice_get copies i slot slot is) in
    gains_as a c ((first ∷ map get (take i copies)) ++ get slot ∷ []) (first ∷ map get (take (i + 1) copies)) [] [] (i + 2) (suc (i + 1)) (max (suc i) (i + 2)) (suc (i + 1))
    (ap (λ l. first ∷ l) (sym (map_more get (take i copies) slot) ∙ ap (map get) (sym next))) refl (omega arith) (omega arith)
    (gains_then a b c (first ∷ map get (take i copies)) (get slot ∷ []) [] [] (suc i) (i + 2) (suc i) (i + 2) p q)
  where
    map_more : (f : ℕ → Line) (xs : List ℕ) (y : ℕ) → map f (xs ++ y ∷ []) ≡ map f xs ++ f y ∷ []
    map_more f [] y = refl
    map_more f (x ∷ xs) y = ap (λ l. f x ∷ l) (map_more f xs y)

pub rounds_gained : (a b c d e f : Draft) (turn sync : Line) (xs ys zs : List Line) (n : ℕ) → Gains a b (turn ∷ []) [] 0 0 → Gains b c xs [] 0 2 → Gains c d ys [] 0 (suc n) → Gains d e zs [] 0 2 → Gains e f (sync ∷ []) [] 0 0 →
    Gains a f (turn ∷ (xs ++ (ys ++ (zs ++ sync ∷ [])))) [] 0 (max 2 (suc n))
rounds_gained a b c d e f turn sync xs ys zs n p q r s t =
    let g1 = gains_then d e f zs (sync ∷ []) [] [] 0 0 2 0 s t in
    let g2 = gains_then c d f ys (zs ++ sync ∷ []) [] [] 0 0 (suc n) (max 2 0) r g1 in
    let g3 = gains_then b c f xs (ys ++ (zs ++ sync ∷ [])) [] [] 0 0 2 (max (suc n) (max 2 0)) q g2 in
    let all = gains_then a b f (turn ∷ []) (xs ++ (ys ++ (zs ++ sync ∷ []))) [] [] 0 0 0 (max 2 (max (suc n) (max 2 0))) p g3 in
    gains_as a f (turn ∷ (xs ++ (ys ++ (zs ++ sync ∷ [])))) (turn ∷ (xs ++ (ys ++ (zs ++ sync ∷ [])))) [] [] 0 0 (max 0 (max 2 (max (suc n) (max 2 0)))) (max 2 (suc n)) refl refl refl (omega arith) all
