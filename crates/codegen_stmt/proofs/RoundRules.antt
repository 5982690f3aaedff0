-- A `cilk_for` keeps the rules.
use Rattle.std.proofs.Common.{◌≡◌, ℕ, suc, ◌+◌, ◌<◌, ◌≤◌, List, [], ◌∷◌, ◌++◌, length, None, refl, sym, ap, ◌∙◌, subst, arith, pos, false, true, map, length-append}
use Rattle.std.specs.Prelude.{option_map, nat_lt}
use Rattle.std.specs.List.{list_all}
use borrow.Author.Tests.{ltb-true}
use Rattle.word_ops.specs.declared.place.Pos.{Pos}
use Rattle.word_ops.specs.declared.operators.BinaryOp.TheVariants as op
use Rattle.cilk_ast.specs.declared.program.Function.{Function}
use Rattle.cilk_ast.specs.Kept.{takes}
use Rattle.threadlet_code.specs.declared.instr.Instr.TheVariants as by
use Rattle.threadlet_code.specs.declared.code.Code.{Code}
use Rattle.threadlet_code.specs.Operands.{hint_operands}
use Rattle.codegen_expr.specs.Piece.{Line, line, placeless, Piece}
use Rattle.codegen_expr.specs.Stands.{LineAt, LinesAt}
use Rattle.codegen_expr.proofs.KeptParts.{both_true}
use Rattle.codegen_expr.proofs.Standing.{lines_same, lines_front, lines_back, formats_front, formats_back}
use Rattle.codegen_expr.proofs.Makes.{IsSized}
use Rattle.codegen_stmt.specs.Stretch.{bounded, spawning_one, counting, spawning}
use Rattle.codegen_stmt.proofs.Lengths.{map_length}
use Rattle.codegen_stmt.proofs.LineRules.{Body, Passes, passes_none, passes_on, passes_then, passes_to, passes_from, passes_with, one_passes, entry_at, height_behind}
use Rattle.codegen_stmt.proofs.PieceRules.{Leaves, leaves_words}
use Rattle.codegen_stmt.proofs.ExpressionRules.{HasCallees}
use Rattle.codegen_stmt.proofs.StretchRules.{AreExits, Clears}

module _ {code : Code} (b : Body code) where
  get_passes : (place words slot : ℕ) → LineAt b.f place (placeless (by.Get slot)) → slot < b.f.slots → b.height place ≡ words → words ≤ b.f.height →
      Passes b (Unit {0}) place (placeless (by.Get slot) ∷ []) (suc place) (words + 1)
  get_passes place words slot has lt e low =
      one_passes b (Unit {0}) place words 0 (words + 1) (placeless (by.Get slot)) has (λ s. refl) refl (omega arith) (omega arith) (omega arith) (λ g entry. lt)

  set_passes : (place slot : ℕ) → LineAt b.f place (placeless (by.Set slot)) → slot < b.f.slots → b.height place ≡ 1 → 1 ≤ b.f.height →
      Passes b (Unit {0}) place (placeless (by.Set slot) ∷ []) (suc place) 0
  set_passes place slot has lt e low =
      one_passes b (Unit {0}) place 0 1 0 (placeless (by.Set slot)) has (λ s. refl) refl (omega arith) (omega arith) refl (λ g entry. lt)

  copies_pass : (slots : ℕ) → slots ≤ b.f.slots → (copies : List ℕ) → list_all (λ slot. nat_lt slot slots) copies ≡ true → (place words : ℕ) →
      LinesAt b.f place (map (λ slot. placeless (by.Get slot)) copies) → b.height place ≡ words → words + length copies ≤ b.f.height →
      Passes b (Unit {0}) place (map (λ slot. placeless (by.Get slot)) copies) (place + length copies) (words + length copies)
  copies_pass slots room [] inside place words has e low =
      passes_to b (Unit {0}) place place (place + 0) words (words + 0) [] (omega arith) (omega arith) (passes_none b (Unit {0}) place words e)
  copies_pass slots room (slot ∷ copies) inside place words has e low =
      let both = both_true (nat_lt slot slots) (list_all (λ slot. nat_lt slot slots) copies) inside in
      let lt = ltb-true slot slots both.0 in
      let p = get_passes place words slot has.0 (omega arith) e (omega arith) in
      let rest = copies_pass slots room copies both.1 (suc place) (words + 1) has.1 p.behind (omega arith) in
      let others = map (λ slot. placeless (by.Get slot)) copies in
      passes_to b (Unit {0}) place (suc place + length copies) (place + suc (length copies)) (words + 1 + length copies) (words + suc (length copies)) (placeless (by.Get slot) ∷ others) (omega arith) (omega arith)
      (passes_then b (Unit {0}) place (suc place + length copies) (words + 1) (words + 1 + length copies) (placeless (by.Get slot)) others p rest)

  module _ (functions : List Function) (callees : HasCallees code functions) (slots : ℕ) (room : slots + 2 ≤ b.f.slots) (spawns : b.f.spawns ≡ true)
      (at : Pos) (g : ℕ) (copies : List ℕ) (inside : list_all (λ slot. nat_lt slot slots) copies ≡ true) (there : takes functions g (suc (length copies)) ≡ true) (head : ℕ)
      (low : 2 ≤ b.f.height) (low' : suc (length copies) ≤ b.f.height) (start : b.height head ≡ 0) where
    abbrev out : ℕ
    out = head + (length copies + 12)

    abbrev U : Type 0
    U = Unit {0}

    abbrev child : List Line
    child = spawning_one at slots g copies

    abbrev first_place : ℕ
    first_place = suc (suc (suc (suc (suc head))))

    abbrev first_copy : ℕ
    first_copy = suc first_place

    abbrev spawn_place : ℕ
    spawn_place = first_copy + length copies

    abbrev gets : List Line
    gets = map (λ slot. placeless (by.Get slot)) copies

    gets_length : length gets ≡ length copies
    gets_length = map_length (λ slot. placeless (by.Get slot)) copies

    abbrev tail : List Line
    tail = counting slots head ++ placeless by.Sync ∷ []

    -- One child.
    child_passes : LinesAt b.f first_place child → b.height first_place ≡ 0 → Passes b U first_place child (suc spawn_place) 0
    child_passes has e =
        let own = line at (by.Spawn g None false) in
        let n = suc (length copies) in
        let counted = ap (option_map (hint_operands false)) (callees.params g n there) in
        let spawn_at = lines_back b.f first_copy (length copies) gets (own ∷ []) gets_length has.1 in
        let p0 = get_passes first_place 0 slots has.0 (omega arith) e (omega arith) in
        let p1 = copies_pass slots (omega arith) copies inside first_copy 1 (lines_front b.f first_copy gets (own ∷ []) has.1) p0.behind (omega arith) in
        let h1 = p1.behind in
        let p2 = one_passes b U spawn_place 0 n (0 + 0) own spawn_at.0 (λ s. refl) counted (omega arith) (omega arith) (leaves_words b own n 0 0 counted refl (λ h. refl))
        (λ g' entry. (callees.there g n there, tt, spawns)) in
        passes_then b U first_place (suc spawn_place) 1 0 (placeless (by.Get slots)) (gets ++ own ∷ []) p0
        (passes_on b U first_copy spawn_place (suc spawn_place) (1 + length copies) 0 gets (own ∷ []) (ap (λ k. first_copy + k) gets_length) p1 p2)

    -- The next value, and back to the Turn; and the Sync at the end.
    tail_passes : (t : ℕ) → suc (suc (suc (suc (suc t)))) ≡ out → LineAt b.f head (placeless by.Turn) → LinesAt b.f t tail → b.height t ≡ 0 →
        Passes b U t tail (suc out) 0 × (b.height out ≡ 0) × LineAt b.f out (placeless by.Sync)
    tail_passes t same turn has e =
        let t1 = suc t in
        let t2 = suc t1 in
        let t3 = suc t2 in
        let t4 = suc t3 in
        let t5 = suc t4 in
        let one = placeless (by.Push (pos 1)) in
        let sum = placeless (by.Bin op.Add) in
        let again = placeless (by.Jump head) in
        let sync = placeless by.Sync in
        let c0 = get_passes t 0 slots has.0 (omega arith) e (omega arith) in
        let h1 = c0.behind in
        let c1 = one_passes b U t1 1 0 2 one has.1.0 (λ s. refl) refl (omega arith) (omega arith) refl (λ g' entry. tt) in
        let h2 = c1.behind in
        let c2 = one_passes b U t2 0 2 1 sum has.1.1.0 (λ s. refl) refl (omega arith) (omega arith) refl (λ g' entry. tt) in
        let h3 = c2.behind in
        let c3 = set_passes t3 slots has.1.1.1.0 (omega arith) h3 (omega arith) in
        let h4 = c3.behind in
        let c4 = one_passes b U t4 0 0 0 again has.1.1.1.1.0 (λ s. refl) refl (omega arith) (omega arith) refl
        (λ g' entry. record { entry = entry_at b head (placeless by.Turn) turn (λ s. refl); turn = λ back. turn.instr; height = omega arith }) in
        let h5 = c4.behind in
        let c5 = one_passes b U t5 0 0 0 sync has.1.1.1.1.1.0 (λ s. refl) refl (omega arith) (omega arith) refl (λ g' entry. tt) in
        let all = passes_then b U t (suc t5) 1 0 (placeless (by.Get slots)) (one ∷ sum ∷ placeless (by.Set slots) ∷ again ∷ sync ∷ []) c0
        (passes_then b U t1 (suc t5) 2 0 one (sum ∷ placeless (by.Set slots) ∷ again ∷ sync ∷ []) c1
        (passes_then b U t2 (suc t5) 1 0 sum (placeless (by.Set slots) ∷ again ∷ sync ∷ []) c2
        (passes_then b U t3 (suc t5) 0 0 (placeless (by.Set slots)) (again ∷ sync ∷ []) c3 (passes_then b U t4 (suc t5) 0 0 again (sync ∷ []) c4 c5)))) in (
          passes_to b U t (suc t5) (suc out) 0 0 tail (ap suc same) refl all,
          sym (ap b.height same) ∙ h5,
          subst (λ k. LineAt b.f k sync) same has.1.1.1.1.1.0,
        )

    -- From the loop's Turn on.
    pub rounds_pass : LinesAt b.f head (placeless by.Turn ∷ (bounded slots out ++ (child ++ tail))) → Passes b U head (placeless by.Turn ∷ (bounded slots out ++ (child ++ tail))) (suc out) 0
    rounds_pass has =
        let h1 = suc head in
        let h2 = suc h1 in
        let h3 = suc h2 in
        let h4 = suc h3 in
        let turn = placeless by.Turn in
        let low_ = placeless (by.Get slots) in
        let high = placeless (by.Get (suc slots)) in
        let less = placeless (by.Bin op.Lt) in
        let test = placeless (by.JumpZero out) in
        let own = line at (by.Spawn g None false) in
        let count : length child ≡ 2 + length copies = omega (arith, length-append gets (own ∷ []), gets_length) in
        let tail_at = lines_same b.f (first_place + (2 + length copies)) (suc spawn_place) tail (omega arith) (lines_back b.f first_place (2 + length copies) child tail count has.1.1.1.1.1) in
        let p0 = one_passes b U head 0 0 0 turn has.0 (λ s. refl) refl (omega arith) (omega arith) refl (λ g' entry. tt) in
        let p1 = get_passes h1 0 slots has.1.0 (omega arith) p0.behind (omega arith) in
        let p2 = get_passes h2 1 (suc slots) has.1.1.0 (omega arith) p1.behind (omega arith) in
        let e2 = p2.behind in
        let p3 = one_passes b U h3 0 2 1 less has.1.1.1.0 (λ s. refl) refl (omega arith) (omega arith) refl (λ g' entry. tt) in
        let e3 = p3.behind in
        let e4 : b.height first_place ≡ 0 = height_behind b h4 0 1 test has.1.1.1.1.0 (omega arith) 0 refl in
        let p5 = child_passes (lines_front b.f first_place child tail has.1.1.1.1.1) e4 in
        let p6 = tail_passes (suc spawn_place) (omega arith) has.0 tail_at p5.behind in
        let p4 = one_passes b U h4 0 1 0 test has.1.1.1.1.0 (λ s. refl) refl (omega arith) (omega arith) refl
        (λ g' entry. record { entry = entry_at b out (placeless by.Sync) p6.2 (λ s. refl); turn = λ back. absurd (omega arith); height = let e5 = p6.1 in omega arith }) in
        let last = child ++ tail in
        passes_then b U head (suc out) 0 0 turn (low_ ∷ high ∷ less ∷ test ∷ last) p0
        (passes_then b U h1 (suc out) 1 0 low_ (high ∷ less ∷ test ∷ last) p1
        (passes_then b U h2 (suc out) 2 0 high (less ∷ test ∷ last) p2
        (passes_then b U h3 (suc out) 1 0 less (test ∷ last) p3
        (passes_then b U h4 (suc out) 0 0 test last p4
        (passes_on b U first_place (suc spawn_place) (suc out) 0 0 child tail (ap (λ k. first_place + k) count ∙ omega arith) p5 p6.0)))))

  -- Both bounds, and then the rounds.
  pub spawning_clears : (functions : List Function) → HasCallees code functions → (slots : ℕ) → slots + 2 ≤ b.f.slots → b.f.spawns ≡ true → (at : Pos) (l h : Piece) (g : ℕ) (copies : List ℕ) →
      list_all (λ slot. nat_lt slot slots) copies ≡ true → takes functions g (suc (length copies)) ≡ true → IsSized l → IsSized h → 1 ≤ l.rise → Leaves b l → Leaves b h → Clears b (spawning at slots l h g copies)
  spawning_clears functions callees slots room spawns at l h g copies inside there sized_l sized_h rises p_l p_h exits place first has formats e low =
      let U = Unit {0} in
      let q = place + l.size in
      let r = suc q + h.size in
      let head = suc (suc (place + l.size + h.size)) in
      let out = head + (length copies + 12) in
      let loop : List Line = placeless by.Turn ∷ (bounded slots out ++ (spawning_one at slots g copies ++ (counting slots head ++ placeless by.Sync ∷ []))) in
      let set_low = placeless (by.Set slots) in
      let set_high = placeless (by.Set (suc slots)) in
      let front = l.lines place first in
      let middle = h.lines (suc q) (first + length l.formats) in
      let back : List Line = set_low ∷ (middle ++ set_high ∷ loop) in
      let rest = lines_back b.f place l.size front back (sized_l place first) has in
      let ending = lines_back b.f (suc q) h.size middle (set_high ∷ loop) (sized_h (suc q) (first + length l.formats)) rest.1 in
      let next : suc r ≡ head = omega arith in
      let at_head : LinesAt b.f head loop = lines_same b.f (suc r) head loop next ending.1 in
      let done = place + (l.size + suc (h.size + suc (length copies + 13))) in
      let p = p_l place first 0 (lines_front b.f place front back has) (formats_front code.formats first l.formats h.formats formats) e (omega arith) in
      let p1 = set_passes q slots rest.0 (omega arith) p.behind (omega arith) in
      let m = p_h (suc q) (first + length l.formats) 0 (lines_front b.f (suc q) middle (set_high ∷ loop) rest.1) (formats_back code.formats first l.formats h.formats formats) p1.behind (omega arith) in
      let p2 = set_passes r (suc slots) ending.0 (omega arith) m.behind (omega arith) in
      let h_head : b.height head ≡ 0 = sym (ap b.height next) ∙ p2.behind in
      let w = rounds_pass functions callees slots room spawns at g copies inside there head (omega arith) (omega arith) h_head at_head in
      let tail = passes_then b U r (suc out) 0 0 set_high loop p2 (passes_from b U head (suc r) (suc out) 0 loop (sym next) w) in
      let own = passes_then b U q (suc out) 0 0 set_low (middle ++ set_high ∷ loop) p1
      (passes_on b U (suc q) r (suc out) 1 0 middle (set_high ∷ loop) (ap (λ k. suc q + k) (sized_h (suc q) (first + length l.formats))) m tail) in
      passes_with b (AreExits b exits done) U place done 0 (front ++ back) (λ g' entry. tt)
      (passes_to b U place (suc out) done 0 0 (front ++ back) (omega arith) refl (passes_on b U place q (suc out) 1 0 front back (ap (λ k. place + k) (sized_l place first)) p own))
