-- Pieces of which one part may be left out.
use Rattle.std.proofs.Common.{◌≡◌, ℕ, suc, ◌+◌, ◌≤◌, List, [], ◌∷◌, ◌++◌, length, refl, ap, ◌∙◌, arith, ℤ, pos, Bool, true, false}
use Rattle.std.specs.Prelude.{not, if◌then◌else◌}
use Rattle.word_ops.specs.declared.place.Pos.{Pos}
use Rattle.word_ops.specs.Operators.{same_word, truth_of}
use Rattle.world_model.specs.Action.{Answers}
use Rattle.world_model.specs.Meaning.{Acts}
use Rattle.cilk_model.specs.Value.{is_true, judged}
use Rattle.threadlet_code.specs.declared.instr.Instr.TheVariants as by
use Rattle.threadlet_code.specs.declared.code.Code.{Code}
use Rattle.threadlet_code.specs.Machine.{goes, onward}
use Rattle.codegen_expr.specs.Piece.{Line, line, Piece, both, either, judging}
use Rattle.codegen_expr.specs.Stands.{LineAt, LinesAt}
use Rattle.codegen_expr.proofs.Standing.{lines_front, lines_back, formats_front, formats_back}
use Rattle.codegen_expr.proofs.Steps.{Laws, Seat, frame_of, state_of, silent, at_place}
use Rattle.codegen_expr.proofs.Makes.{Valued, IsSized, After, Makes, ends}

module _ {code : Code} (seat : Seat code) (laws : Laws code) where
  -- A test of 0, and one of another word.
  pub tests_zero : (at : Pos) (to place : ℕ) (stack : List ℤ) (y : ℤ) → LineAt seat.f place (line at (by.JumpZero to)) → same_word y (pos 0) ≡ true → (A : Answers) →
      laws.from (state_of seat place (y ∷ stack)) A ≡ laws.from (state_of seat to stack) A
  tests_zero at to place stack y has is A =
      let frame = frame_of seat place stack in
      silent seat laws (line at (by.JumpZero to)) place stack (y ∷ []) 1 has refl refl (state_of seat to stack)
      (ap (λ b. goes ((if b then record frame { at = to } else onward frame) ∷ seat.frames)) is) A

  pub tests_other : (at : Pos) (to place : ℕ) (stack : List ℤ) (y : ℤ) → LineAt seat.f place (line at (by.JumpZero to)) → same_word y (pos 0) ≡ false → (A : Answers) →
      laws.from (state_of seat place (y ∷ stack)) A ≡ laws.from (state_of seat (suc place) stack) A
  tests_other at to place stack y has is A =
      let frame = frame_of seat place stack in
      silent seat laws (line at (by.JumpZero to)) place stack (y ∷ []) 1 has refl refl (state_of seat (suc place) stack)
      (ap (λ b. goes ((if b then record frame { at = to } else onward frame) ∷ seat.frames)) is) A

  pub pushes : (at : Pos) (word : ℤ) (place : ℕ) (stack : List ℤ) → LineAt seat.f place (line at (by.Push word)) → (A : Answers) →
      laws.from (state_of seat place stack) A ≡ laws.from (state_of seat (suc place) (word ∷ stack)) A
  pushes at word place stack has A = silent seat laws (line at (by.Push word)) place stack [] 0 has refl refl (state_of seat (suc place) (word ∷ stack)) refl A

  pub jumps : (at : Pos) (to place : ℕ) (stack : List ℤ) → LineAt seat.f place (line at (by.Jump to)) → (A : Answers) →
      laws.from (state_of seat place stack) A ≡ laws.from (state_of seat to stack) A
  jumps at to place stack has A = silent seat laws (line at (by.Jump to)) place stack [] 0 has refl refl (state_of seat to stack) refl A

  module _ (n : ℕ) where
    -- 0 at the end of a choice.
    zero_judged : (at : Pos) (place : ℕ) (stack : List ℤ) (k : ℤ → Acts) → LinesAt seat.f place (judging at place) → After seat laws n k (place + 4) stack →
        (B : Answers) → length B ≤ n → laws.from (state_of seat (place + 3) stack) B ≡ k (pos 0) B
    zero_judged at place stack k has after B le =
        at_place seat laws (place + 3) (suc (suc (suc place))) stack B (omega arith)
        ∙ pushes at (pos 0) (suc (suc (suc place))) stack has.1.1.1.0 B
        ∙ ends seat laws n k (suc (suc (suc (suc place)))) (place + 4) stack (omega arith) after (pos 0) B le

    judges : (at : Pos) (place : ℕ) (stack : List ℤ) (k : ℤ → Acts) → LinesAt seat.f place (judging at place) → After seat laws n k (place + 4) stack →
        (y : ℤ) (b : Bool) → same_word y (pos 0) ≡ b → (B : Answers) → length B ≤ n → laws.from (state_of seat place (y ∷ stack)) B ≡ k (truth_of (not b)) B
    judges at place stack k has after y true is B le =
        tests_zero at (place + 3) place stack y has.0 is B ∙ zero_judged at place stack k has after B le
    judges at place stack k has after y false is B le =
        tests_other at (place + 3) place stack y has.0 is B
        ∙ pushes at (pos 1) (suc place) stack has.1.0 B
        ∙ jumps at (place + 4) (suc (suc place)) (pos 1 ∷ stack) has.1.1.0 B
        ∙ after (pos 1) B le

    pub both_made : (at : Pos) (left right : Piece) (x y : Valued) → IsSized left → IsSized right → Makes seat laws n left x → Makes seat laws n right y →
        Makes seat laws n (both at left right) (λ k. x (λ v. if is_true v then y (judged k) else k (pos 0)))
    both_made at left right x y sized_l sized_r made_l made_r place first stack k has formats after A le =
        let front = left.lines place first in
        let test = place + left.size in
        let second = suc test in
        let judge = second + right.size in
        let middle = right.lines second (first + length left.formats) in
        let back : List Line = line at (by.JumpZero (judge + 3)) ∷ (middle ++ judging at judge) in
        let rest = lines_back seat.f place left.size front back (sized_l place first) has in
        let judge_at = lines_back seat.f second right.size middle (judging at judge) (sized_r second (first + length left.formats)) rest.1 in
        let same : judge + 4 ≡ place + (left.size + suc (right.size + 4)) = omega arith in
        let after' = ends seat laws n k (judge + 4) (place + (left.size + suc (right.size + 4))) stack same after in
        let chosen : (v : ℤ) (b : Bool) → same_word v (pos 0) ≡ b → (B : Answers) → length B ≤ n →
        laws.from (state_of seat test (v ∷ stack)) B ≡ (if not b then y (judged k) else k (pos 0)) B =
        λ v b. elim b as (λ b. same_word v (pos 0) ≡ b → (B : Answers) → length B ≤ n →
        laws.from (state_of seat test (v ∷ stack)) B ≡ (if not b then y (judged k) else k (pos 0)) B) [
          | true ↦ λ is B le_b. tests_zero at (judge + 3) test stack v rest.0 is B ∙ zero_judged at judge stack k judge_at after' B le_b
          | false ↦ λ is B le_b. tests_other at (judge + 3) test stack v rest.0 is B
              ∙ made_r second (first + length left.formats) stack (judged k) (lines_front seat.f second middle (judging at judge) rest.1)
              (formats_back code.formats first left.formats right.formats formats)
              (λ w C le_c. judges at judge stack k judge_at after' w (same_word w (pos 0)) refl C le_c) B le_b
        ] in
        made_l place first stack (λ v. if is_true v then y (judged k) else k (pos 0)) (lines_front seat.f place front back has)
        (formats_front code.formats first left.formats right.formats formats)
        (λ v B le_b. chosen v (same_word v (pos 0)) refl B le_b) A le

    pub either_made : (at : Pos) (left right : Piece) (x y : Valued) → IsSized left → IsSized right → Makes seat laws n left x → Makes seat laws n right y →
        Makes seat laws n (either at left right) (λ k. x (λ v. if is_true v then k (pos 1) else y (judged k)))
    either_made at left right x y sized_l sized_r made_l made_r place first stack k has formats after A le =
        let front = left.lines place first in
        let test = place + left.size in
        let second = suc (suc (suc test)) in
        let judge = second + right.size in
        let middle = right.lines second (first + length left.formats) in
        let back : List Line = line at (by.JumpZero second) ∷ line at (by.Push (pos 1)) ∷ line at (by.Jump (judge + 4)) ∷ (middle ++ judging at judge) in
        let rest = lines_back seat.f place left.size front back (sized_l place first) has in
        let judge_at = lines_back seat.f second right.size middle (judging at judge) (sized_r second (first + length left.formats)) rest.1.1.1 in
        let same : judge + 4 ≡ place + (left.size + suc (suc (suc (right.size + 4)))) = omega arith in
        let after' = ends seat laws n k (judge + 4) (place + (left.size + suc (suc (suc (right.size + 4))))) stack same after in
        let chosen : (v : ℤ) (b : Bool) → same_word v (pos 0) ≡ b → (B : Answers) → length B ≤ n →
        laws.from (state_of seat test (v ∷ stack)) B ≡ (if not b then k (pos 1) else y (judged k)) B =
        λ v b. elim b as (λ b. same_word v (pos 0) ≡ b → (B : Answers) → length B ≤ n →
        laws.from (state_of seat test (v ∷ stack)) B ≡ (if not b then k (pos 1) else y (judged k)) B) [
          | true ↦ λ is B le_b. tests_zero at second test stack v rest.0 is B
              ∙ made_r second (first + length left.formats) stack (judged k) (lines_front seat.f second middle (judging at judge) rest.1.1.1)
              (formats_back code.formats first left.formats right.formats formats)
              (λ w C le_c. judges at judge stack k judge_at after' w (same_word w (pos 0)) refl C le_c) B le_b
          | false ↦ λ is B le_b. tests_other at second test stack v rest.0 is B
              ∙ pushes at (pos 1) (suc test) stack rest.1.0 B
              ∙ jumps at (judge + 4) (suc (suc test)) (pos 1 ∷ stack) rest.1.1.0 B
              ∙ after' (pos 1) B le_b
        ] in
        made_l place first stack (λ v. if is_true v then k (pos 1) else y (judged k)) (lines_front seat.f place front back has)
        (formats_front code.formats first left.formats right.formats formats)
        (λ v B le_b. chosen v (same_word v (pos 0)) refl B le_b) A le
