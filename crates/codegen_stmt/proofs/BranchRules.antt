-- Sums, choices and loops keep the rules.
use Rattle.std.proofs.Common.{◌≡◌, suc, ◌+◌, ◌≤◌, List, [], ◌∷◌, ◌++◌, length, refl, sym, ap, ◌∙◌, arith}
use Rattle.word_ops.specs.declared.place.Pos.{Pos}
use Rattle.word_ops.specs.declared.operators.BinaryOp.TheVariants as op
use Rattle.mem_atomics.specs.declared.op.Op.TheVariants as atomic
use Rattle.threadlet_code.specs.declared.instr.Instr.TheVariants as by
use Rattle.threadlet_code.specs.declared.code.Code.{Code}
use Rattle.codegen_expr.specs.Piece.{Line, line, placeless, Piece}
use Rattle.codegen_expr.proofs.Standing.{lines_same, lines_front, lines_back, formats_front, formats_back}
use Rattle.codegen_expr.proofs.Makes.{IsSized}
use Rattle.codegen_stmt.specs.Stretch.{Exits, Stretch, adding, choosing, looping}
use Rattle.codegen_stmt.proofs.Runs.{IsLong}
use Rattle.codegen_stmt.proofs.LineRules.{Body, IsEntry, passes_on, passes_then, passes_to, passes_from, passes_with, one_passes, entry_at, entry_to, height_behind}
use Rattle.codegen_stmt.proofs.PieceRules.{Leaves}
use Rattle.codegen_stmt.proofs.StretchRules.{AreExits, exits_sooner, Clears}

module _ {code : Code} (b : Body code) where
  pub adding_clears : (at : Pos) (l r : Piece) → IsSized l → IsSized r → 1 ≤ l.rise → 1 ≤ r.rise → Leaves b l → Leaves b r → Clears b (adding at l r)
  adding_clears at l r sized_l sized_r rises_l rises_r p_l p_r exits place first has formats e low =
      let U = Unit {0} in
      let q = place + l.size in
      let start = suc (suc q) in
      let sum_place = start + r.size in
      let done = suc (suc sum_place) in
      let out = place + (l.size + suc (suc (r.size + 2))) in
      let dup = placeless by.Dup in
      let load = line at by.Load in
      let sum = placeless (by.Bin op.Add) in
      let store = line at (by.Post atomic.Store) in
      let front = l.lines place first in
      let middle = r.lines start (first + length l.formats) in
      let back : List Line = dup ∷ load ∷ (middle ++ sum ∷ store ∷ []) in
      let rest = lines_back b.f place l.size front back (sized_l place first) has in
      let last = lines_back b.f start r.size middle (sum ∷ store ∷ []) (sized_r start (first + length l.formats)) rest.1.1 in
      let p = p_l place first 0 (lines_front b.f place front back has) (formats_front code.formats first l.formats r.formats formats) e (omega arith) in
      let h = p.behind in
      let t0 = one_passes b U q 0 1 2 dup rest.0 (λ s. refl) refl (omega arith) (omega arith) refl (λ g entry. tt) in
      let h1 = t0.behind in
      let t1 = one_passes b U (suc q) 1 1 2 load rest.1.0 (λ s. refl) refl (omega arith) (omega arith) refl (λ g entry. tt) in
      let m = p_r start (first + length l.formats) 2 (lines_front b.f start middle (sum ∷ store ∷ []) rest.1.1) (formats_back code.formats first l.formats r.formats formats) t1.behind (omega arith) in
      let h3 = m.behind in
      let t2 = one_passes b U sum_place 1 2 2 sum last.0 (λ s. refl) refl (omega arith) (omega arith) refl (λ g entry. tt) in
      let h4 = t2.behind in
      let t3 = one_passes b U (suc sum_place) 0 2 0 store last.1.0 (λ s. refl) refl (omega arith) (omega arith) refl (λ g entry. tt) in
      let ending = passes_then b U sum_place done 2 0 sum (store ∷ []) t2 t3 in
      let own = passes_then b U q done 2 0 dup (load ∷ (middle ++ sum ∷ store ∷ [])) t0
      (passes_then b U (suc q) done 2 0 load (middle ++ sum ∷ store ∷ []) t1
      (passes_on b U start sum_place done 3 0 middle (sum ∷ store ∷ []) (ap (λ n. start + n) (sized_r start (first + length l.formats))) m ending)) in
      passes_with b (AreExits b exits out) U place out 0 (front ++ back) (λ g entry. tt)
      (passes_to b U place done out 0 0 (front ++ back) (omega arith) refl (passes_on b U place q done 1 0 front back (ap (λ n. place + n) (sized_l place first)) p own))

  pub choosing_clears : (t : Piece) (a c : Stretch) → IsSized t → IsLong a → IsLong c → 1 ≤ t.rise → Leaves b t → Clears b a → Clears b c → Clears b (choosing t a c)
  choosing_clears t a c sized_t long_a long_c rises p_t clears_a clears_c exits place first has formats e low =
      let U = Unit {0} in
      let q = place + t.size in
      let start = suc q in
      let over = start + a.size in
      let second = suc over in
      let done = second + c.size in
      let out = place + (t.size + suc (a.size + suc c.size)) in
      let same : done ≡ out = omega arith in
      let G = AreExits b exits out in
      let n = first + length t.formats in
      let n2 = n + length a.formats in
      let front = t.lines place first in
      let ys = a.lines exits start n in
      let zs = c.lines exits second n2 in
      let test = placeless (by.JumpZero second) in
      let past = placeless (by.Jump done) in
      let r2 : List Line = past ∷ zs in
      let r1 : List Line = test ∷ (ys ++ r2) in
      let rest = lines_back b.f place t.size front r1 (sized_t place first) has in
      let right = lines_back b.f start a.size ys r2 (long_a exits start n) rest.1 in
      let others = formats_back code.formats first t.formats (a.formats ++ c.formats) formats in
      let p = p_t place first 0 (lines_front b.f place front r1 has) (formats_front code.formats first t.formats (a.formats ++ c.formats) formats) e (omega arith) in
      let h0 = p.behind in
      let h1 : b.height start ≡ 0 = height_behind b q 0 1 test rest.0 (omega arith) 0 refl in
      let m = clears_a exits start n (lines_front b.f start ys r2 rest.1) (formats_front code.formats n a.formats c.formats others) h1 (omega arith) in
      let h2 = m.behind in
      let h3 : b.height second ≡ 0 = height_behind b over 0 0 past right.0 (omega arith) 0 refl in
      let w = clears_c exits second n2 right.1 (formats_back code.formats n a.formats c.formats others) h3 (omega arith) in
      let h4 = w.behind in
      let to_done = entry_to b out done (sym same) in
      let P_no = passes_with b (G × IsEntry b out) (AreExits b exits done) second done 0 zs (λ g entry. exits_sooner b exits out done (omega arith) g.0) w in
      let P_yes = passes_with b (G × IsEntry b out) (AreExits b exits over) start over 0 ys (λ g entry. exits_sooner b exits out over (omega arith) g.0) m in
      let P_past = one_passes b (G × IsEntry b out) over 0 0 0 past right.0 (λ s. refl) refl (omega arith) (omega arith) refl
      (λ g entry. record { entry = to_done g.1; turn = λ back. absurd (omega arith); height = omega arith }) in
      let P_test = one_passes b (G × IsEntry b out) q 0 1 0 test rest.0 (λ s. refl) refl (omega arith) (omega arith) refl
      (λ g entry. record { entry = w.enters (to_done g.1); turn = λ back. absurd (omega arith); height = omega arith }) in
      let P_front = passes_with b (G × IsEntry b out) U place q 1 front (λ g entry. tt) p in
      let H = G × IsEntry b out in
      let own = passes_on b H place q done 1 0 front r1 (ap (λ k. place + k) (sized_t place first)) P_front
      (passes_then b H q done 0 0 test (ys ++ r2) P_test
      (passes_on b H start over done 0 0 ys r2 (ap (λ k. start + k) (long_a exits start n)) P_yes
      (passes_then b H over done 0 0 past zs P_past P_no))) in
      passes_with b G H place out 0 (front ++ r1) (λ g entry. (g, entry)) (passes_to b H place done out 0 0 (front ++ r1) same refl own)

  pub looping_clears : (t : Piece) (s c : Stretch) → IsSized t → IsLong s → IsLong c → 1 ≤ t.rise → Leaves b t → Clears b s → Clears b c → Clears b (looping t s c)
  looping_clears t s c sized_t long_s long_c rises p_t clears_s clears_c exits place first has formats e low =
      let U = Unit {0} in
      let q = suc place + t.size in
      let start = suc (suc (place + t.size)) in
      let onto = start + c.size in
      let back_place = onto + s.size in
      let done = suc back_place in
      let out = place + suc (t.size + suc (c.size + (s.size + 1))) in
      let same : done ≡ out = omega arith in
      let n = first + length t.formats in
      let n2 = n + length c.formats in
      let own_exits : Exits = record { broken = done; continued = onto } in
      let turn = placeless by.Turn in
      let test = placeless (by.JumpZero done) in
      let again = placeless (by.Jump place) in
      let front = t.lines (suc place) first in
      let ys = c.lines own_exits start n in
      let zs = s.lines exits onto n2 in
      let r2 : List Line = zs ++ again ∷ [] in
      let r1 : List Line = test ∷ (ys ++ r2) in
      let rest = lines_back b.f (suc place) t.size front r1 (sized_t (suc place) first) has.1 in
      let next : suc q ≡ start = omega arith in
      let here = lines_same b.f (suc q) start (ys ++ r2) next rest.1 in
      let stepping = lines_back b.f start c.size ys r2 (long_c own_exits start n) here in
      let jump = lines_back b.f onto s.size zs (again ∷ []) (long_s exits onto n2) stepping in
      let others = formats_back code.formats first t.formats (c.formats ++ s.formats) formats in
      let h_turn : b.height (suc place) ≡ 0 = height_behind b place 0 0 turn has.0 (omega arith) 0 refl in
      let p = p_t (suc place) first 0 (lines_front b.f (suc place) front r1 has.1) (formats_front code.formats first t.formats (c.formats ++ s.formats) formats) h_turn (omega arith) in
      let h0 = p.behind in
      let h1 : b.height (suc q) ≡ 0 = height_behind b q 0 1 test rest.0 (omega arith) 0 refl in
      let h_start : b.height start ≡ 0 = sym (ap b.height next) ∙ h1 in
      let m = clears_c own_exits start n (lines_front b.f start ys r2 here) (formats_front code.formats n c.formats s.formats others) h_start (omega arith) in
      let h_onto = m.behind in
      let w = clears_s exits onto n2 (lines_front b.f onto zs (again ∷ []) stepping) (formats_back code.formats n c.formats s.formats others) h_onto (omega arith) in
      let h_back = w.behind in
      let h_done : b.height done ≡ 0 = height_behind b back_place 0 0 again jump.0 (omega arith) 0 refl in
      let H = AreExits b exits out × IsEntry b out in
      let to_done = entry_to b out done (sym same) in
      let P_turn = one_passes b H place 0 0 0 turn has.0 (λ s. refl) refl (omega arith) (omega arith) refl (λ g entry. tt) in
      let P_front = passes_with b H U (suc place) q 1 front (λ g entry. tt) p in
      let P_test = one_passes b H q 0 1 0 test rest.0 (λ s. refl) refl (omega arith) (omega arith) refl
      (λ g entry. record { entry = to_done g.1; turn = λ back. absurd (omega arith); height = omega arith }) in
      let P_body = passes_with b H (AreExits b own_exits onto) start onto 0 ys
      (λ g entry. record {
        broken = record { after = omega arith; entry = to_done g.1; height = h_done };
        continued = record { after = omega arith; entry = entry; height = h_onto };
      }) m in
      let P_step = passes_with b H (AreExits b exits back_place) onto back_place 0 zs (λ g entry. exits_sooner b exits out back_place (omega arith) g.0) w in
      let P_again = one_passes b H back_place 0 0 0 again jump.0 (λ s. refl) refl (omega arith) (omega arith) refl
      (λ g entry. record { entry = entry_at b place turn has.0 (λ s. refl); turn = λ back. has.0.instr; height = omega arith }) in
      let tail = passes_on b H start onto done 0 0 ys r2 (ap (λ k. start + k) (long_c own_exits start n)) P_body
      (passes_on b H onto back_place done 0 0 zs (again ∷ []) (ap (λ k. onto + k) (long_s exits onto n2)) P_step P_again) in
      let whole = passes_then b H place done 0 0 turn (front ++ r1) P_turn
      (passes_on b H (suc place) q done 1 0 front r1 (ap (λ k. suc place + k) (sized_t (suc place) first)) P_front
      (passes_then b H q done 0 0 test (ys ++ r2) P_test (passes_from b H start (suc q) done 0 (ys ++ r2) (sym next) tail))) in
      passes_with b (AreExits b exits out) H place out 0 (turn ∷ (front ++ r1)) (λ g entry. (g, entry)) (passes_to b H place done out 0 0 (turn ∷ (front ++ r1)) same refl whole)
