-- The code of an expression keeps the rules: pieces, and how larger ones are made of them.
use Rattle.std.proofs.Common.{◌≡◌, ℕ, suc, ◌+◌, ◌-◌, ◌≤◌, List, [], ◌∷◌, ◌++◌, length, Some, refl, sym, ap, ◌∙◌, arith, pos, false}
use Rattle.std.specs.Prelude.{slice_get, option_map}
use Rattle.std.proofs.lemmas.Option.{slice_get_within}
use Rattle.word_ops.specs.declared.place.Pos.{Pos}
use Rattle.word_ops.specs.declared.format.Part.{Part}
use Rattle.word_ops.specs.Formats.{words_in}
use Rattle.threadlet_code.specs.declared.instr.Instr.TheVariants as by
use Rattle.threadlet_code.specs.declared.code.Code.{Code}
use Rattle.threadlet_code.specs.Operands.{operands, results}
use Rattle.threadlet_code.specs.Naming.{is_return}
use Rattle.threadlet_code.specs.Ways.{exchanged}
use Rattle.codegen_expr.specs.Piece.{Line, line, placeless, zero_line, Piece, in_order, operation, printing, both, either, judging}
use Rattle.codegen_expr.specs.Stands.{LineAt, LinesAt, FormatsAt}
use Rattle.codegen_expr.proofs.Standing.{lines_front, lines_back, formats_front, formats_back}
use Rattle.codegen_expr.proofs.Makes.{IsSized}
use Rattle.codegen_stmt.proofs.LineRules.{Body, next_height, IsEntry, IsNamed, Passes, passes_none, passes_on, passes_then, passes_to, passes_with, one_passes, entry_at, entry_to, height_behind}

module _ {code : Code} (b : Body code) where
  -- The lines of a piece keep the rules wherever it stands, and leave a word.
  abbrev pub Leaves : Piece → Type 0
  Leaves piece = (place first words : ℕ) → LinesAt b.f place (piece.lines place first) → FormatsAt code.formats first piece.formats → b.height place ≡ words →
      words + piece.rise ≤ b.f.height → Passes b (Unit {0}) place (piece.lines place first) (place + piece.size) (words + 1)

  abbrev pub LeavesAll : List Piece → Type 0
  LeavesAll pieces = (place first words : ℕ) → LinesAt b.f place ((in_order pieces).lines place first) → FormatsAt code.formats first (in_order pieces).formats → b.height place ≡ words →
      words + (in_order pieces).rise ≤ b.f.height → Passes b (Unit {0}) place ((in_order pieces).lines place first) (place + (in_order pieces).size) (words + length pieces)

  -- Own lines make a word of so many.
  abbrev pub Finishes : List Line → ℕ → Type 0
  Finishes own n = (place words : ℕ) → LinesAt b.f place own → b.height place ≡ words + n → words + n ≤ b.f.height → Passes b (Unit {0}) place own (place + length own) (words + 1)

  pub none_leaves : LeavesAll []
  none_leaves place first words has formats e low = passes_to b (Unit {0}) place place (place + 0) words (words + 0) [] (omega arith) (omega arith) (passes_none b (Unit {0}) place words e)

  pub more_leaves : (piece : Piece) (pieces : List Piece) → IsSized piece → Leaves piece → LeavesAll pieces → LeavesAll (piece ∷ pieces)
  more_leaves piece pieces sized one all place first words has formats e low =
      let front = piece.lines place first in
      let rest = in_order pieces in
      let back = rest.lines (place + piece.size) (first + length piece.formats) in
      let p = one place first words (lines_front b.f place front back has) (formats_front code.formats first piece.formats rest.formats formats) e (omega arith) in
      let q = all (place + piece.size) (first + length piece.formats) (words + 1) (lines_back b.f place piece.size front back (sized place first) has)
      (formats_back code.formats first piece.formats rest.formats formats) p.behind (omega arith) in
      passes_to b (Unit {0}) place (place + piece.size + rest.size) (place + (piece.size + rest.size)) (words + 1 + length pieces) (words + suc (length pieces)) (front ++ back) (omega arith) (omega arith)
      (passes_on b (Unit {0}) place (place + piece.size) (place + piece.size + rest.size) (words + 1) (words + 1 + length pieces) front back (ap (λ n. place + n) (sized place first)) p q)

  pub operation_leaves : (pieces : List Piece) (own : List Line) → IsSized (in_order pieces) → length pieces ≤ (in_order pieces).rise → LeavesAll pieces → Finishes own (length pieces) → Leaves (operation pieces own)
  operation_leaves pieces own sized rises all finish place first words has formats e low =
      let all_words = in_order pieces in
      let front = all_words.lines place first in
      let mid = place + all_words.size in
      let p = all place first words (lines_front b.f place front own has) formats e (omega arith) in
      let q = finish mid words (lines_back b.f place all_words.size front own (sized place first) has) p.behind (omega arith) in
      passes_to b (Unit {0}) place (mid + length own) (place + (all_words.size + length own)) (words + 1) (words + 1) (front ++ own) (omega arith) refl
      (passes_on b (Unit {0}) place mid (mid + length own) (words + length pieces) (words + 1) front own (ap (λ n. place + n) (sized place first)) p q)

  -- A line that makes a word of so many, and one that makes none, and then 0.
  -- The next line goes on from what it leaves.
  abbrev pub GoesOn : Line → Type 0
  GoesOn l = (height : ℕ) → next_height code height l.instr ≡ exchanged height (operands code l.instr) (results l.instr)

  pub leaves_words : (l : Line) (n r words : ℕ) → operands code l.instr ≡ Some n → results l.instr ≡ r → GoesOn l → next_height code (words + n) l.instr ≡ words + r
  leaves_words l n r words counted left on =
      on (words + n) ∙ ap (λ o. exchanged (words + n) o (results l.instr)) counted ∙ ap (λ k. words + n - n + k) left ∙ omega arith

  pub word_line : (l : Line) (n : ℕ) → is_return (Some l.instr) ≡ false → operands code l.instr ≡ Some n → results l.instr ≡ 1 → GoesOn l → ((place : ℕ) → IsNamed b place l.instr) → Finishes (l ∷ []) n
  word_line l n no_return counted left on named place words has e low =
      passes_to b (Unit {0}) place (suc place) (place + 1) (words + 1) (words + 1) (l ∷ []) (omega arith) refl
      (one_passes b (Unit {0}) place words n (words + 1) l has.0 (λ s. no_return) counted e low (leaves_words l n 1 words counted left on) (λ g entry. named place))

  pub zero_passes : (place words : ℕ) → LineAt b.f place zero_line → b.height place ≡ words → words ≤ b.f.height → Passes b (Unit {0}) place (zero_line ∷ []) (suc place) (words + 1)
  zero_passes place words has e low = one_passes b (Unit {0}) place words 0 (words + 1) zero_line has (λ s. refl) refl (omega arith) (omega arith) (omega arith) (λ g entry. tt)

  pub action_line : (l : Line) (n : ℕ) → is_return (Some l.instr) ≡ false → operands code l.instr ≡ Some n → results l.instr ≡ 0 → GoesOn l → ((place : ℕ) → IsNamed b place l.instr) →
      Finishes (l ∷ zero_line ∷ []) n
  action_line l n no_return counted left on named place words has e low =
      let p = one_passes b (Unit {0}) place words n words l has.0 (λ s. no_return) counted e low (leaves_words l n 0 words counted left on ∙ omega arith) (λ g entry. named place) in
      passes_to b (Unit {0}) place (suc (suc place)) (place + 2) (words + 1) (words + 1) (l ∷ zero_line ∷ []) (omega arith) refl
      (passes_then b (Unit {0}) place (suc (suc place)) words (words + 1) l (zero_line ∷ []) p (zero_passes (suc place) words has.1.0 p.behind (omega arith)))

  -- ---- a print

  pub printing_leaves : (format : List Part) (pieces : List Piece) → IsSized (in_order pieces) → length pieces ≤ (in_order pieces).rise → LeavesAll pieces → words_in format ≡ length pieces → Leaves (printing format pieces)
  printing_leaves format pieces sized rises all count place first words has formats e low =
      let all_words = in_order pieces in
      let front = all_words.lines place first in
      let mid = place + all_words.size in
      let i = first + length all_words.formats in
      let own : List Line = placeless (by.Print i) ∷ zero_line ∷ [] in
      let known : slice_get code.formats i ≡ Some format = (formats_back code.formats first all_words.formats (format ∷ []) formats).0 in
      let p = all place first words (lines_front b.f place front own has) (formats_front code.formats first all_words.formats (format ∷ []) formats) e (omega arith) in
      let counted : operands code (by.Print i) ≡ Some (length pieces) = ap (option_map words_in) known ∙ ap Some count in
      let q = action_line (placeless (by.Print i)) (length pieces) refl counted refl (λ h. refl) (λ place. slice_get_within code.formats i format known) mid words (lines_back b.f place all_words.size front own (sized place first) has) p.behind (omega arith) in
      passes_to b (Unit {0}) place (mid + 2) (place + (all_words.size + 2)) (words + 1) (words + 1) (front ++ own) (omega arith) refl
      (passes_on b (Unit {0}) place mid (mid + 2) (words + length pieces) (words + 1) front own (ap (λ n. place + n) (sized place first)) p q)

  -- ---- choices

  -- The end of a choice.
  judging_passes : (at : Pos) (place words : ℕ) → LinesAt b.f place (judging at place) → b.height place ≡ words + 1 → words + 1 ≤ b.f.height →
      Passes b (Unit {0}) place (judging at place) (place + 4) (words + 1) × (b.height (place + 3) ≡ words) × IsEntry b (place + 3)
  judging_passes at place words has e low =
      let one = suc place in
      let two = suc one in
      let three = suc two in
      let four = suc three in
      let test = line at (by.JumpZero (place + 3)) in
      let yes_ = line at (by.Push (pos 1)) in
      let over = line at (by.Jump (place + 4)) in
      let no_ = line at (by.Push (pos 0)) in
      let h1 : b.height one ≡ words = height_behind b place words 1 test has.0 e words (omega arith) in
      let h2 : b.height two ≡ words + 1 = height_behind b one words 0 yes_ has.1.0 (omega arith) (words + 1) (omega arith) in
      let h3 : b.height three ≡ words = height_behind b two (words + 1) 0 over has.1.1.0 (omega arith) words (omega arith) in
      let h4 : b.height four ≡ words + 1 = height_behind b three words 0 no_ has.1.1.1.0 (omega arith) (words + 1) (omega arith) in
      let at_three : three ≡ place + 3 = omega arith in
      let at_four : four ≡ place + 4 = omega arith in
      let entry_three = entry_to b three (place + 3) at_three (entry_at b three no_ has.1.1.1.0 (λ s. refl)) in
      let g3 : b.height (place + 3) ≡ words = sym (ap b.height at_three) ∙ h3 in
      let g4 : b.height (place + 4) ≡ words + 1 = sym (ap b.height at_four) ∙ h4 in
      let G = IsEntry b (place + 4) in
      let p0 = one_passes b G place words 1 words test has.0 (λ s. refl) refl e low (omega arith) (λ g entry. record { entry = entry_three; turn = λ back. absurd (omega arith); height = omega arith }) in
      let p1 = one_passes b G one words 0 (words + 1) yes_ has.1.0 (λ s. refl) refl (omega arith) (omega arith) (omega arith) (λ g entry. tt) in
      let p2 = one_passes b G two (words + 1) 0 words over has.1.1.0 (λ s. refl) refl (omega arith) (omega arith) (omega arith) (λ g entry. record { entry = g; turn = λ back. absurd (omega arith); height = omega arith }) in
      let p3 = one_passes b G three words 0 (words + 1) no_ has.1.1.1.0 (λ s. refl) refl (omega arith) (omega arith) (omega arith) (λ g entry. tt) in
      let all = passes_then b G place four words (words + 1) test (yes_ ∷ over ∷ no_ ∷ []) p0
      (passes_then b G one four (words + 1) (words + 1) yes_ (over ∷ no_ ∷ []) p1 (passes_then b G two four words (words + 1) over (no_ ∷ []) p2 p3)) in (
        passes_with b (Unit {0}) G place (place + 4) (words + 1) (judging at place) (λ g entry. entry) (passes_to b G place four (place + 4) (words + 1) (words + 1) (judging at place) at_four refl all),
        g3,
        entry_three,
      )

  pub both_leaves : (at : Pos) (left right : Piece) → IsSized left → IsSized right → 1 ≤ left.rise → Leaves left → Leaves right → Leaves (both at left right)
  both_leaves at left right sized_l sized_r rises p_l p_r place first words has formats e low =
      let front = left.lines place first in
      let test_place = place + left.size in
      let second = suc test_place in
      let judge = second + right.size in
      let middle = right.lines second (first + length left.formats) in
      let test = line at (by.JumpZero (judge + 3)) in
      let back : List Line = test ∷ (middle ++ judging at judge) in
      let rest = lines_back b.f place left.size front back (sized_l place first) has in
      let judge_at = lines_back b.f second right.size middle (judging at judge) (sized_r second (first + length left.formats)) rest.1 in
      let p = p_l place first words (lines_front b.f place front back has) (formats_front code.formats first left.formats right.formats formats) e (omega arith) in
      let h1 : b.height second ≡ words = height_behind b test_place words 1 test rest.0 p.behind words (omega arith) in
      let r = p_r second (first + length left.formats) words (lines_front b.f second middle (judging at judge) rest.1) (formats_back code.formats first left.formats right.formats formats) h1 (omega arith) in
      let j = judging_passes at judge words judge_at r.behind (omega arith) in
      let t = one_passes b (Unit {0}) test_place words 1 words test rest.0 (λ s. refl) refl p.behind (omega arith) (omega arith)
      (λ g entry. record { entry = j.2; turn = λ back. absurd (omega arith); height = let h = p.behind in let h3 = j.1 in omega arith }) in
      let q = passes_on b (Unit {0}) second judge (judge + 4) (words + 1) (words + 1) middle (judging at judge) (ap (λ n. second + n) (sized_r second (first + length left.formats))) r j.0 in
      passes_to b (Unit {0}) place (judge + 4) (place + (left.size + suc (right.size + 4))) (words + 1) (words + 1) (front ++ back) (omega arith) refl
      (passes_on b (Unit {0}) place test_place (judge + 4) (words + 1) (words + 1) front back (ap (λ n. place + n) (sized_l place first)) p
      (passes_then b (Unit {0}) test_place (judge + 4) words (words + 1) test (middle ++ judging at judge) t q))

  pub either_leaves : (at : Pos) (left right : Piece) → IsSized left → IsSized right → 1 ≤ left.rise → Leaves left → Leaves right → Leaves (either at left right)
  either_leaves at left right sized_l sized_r rises p_l p_r place first words has formats e low =
      let front = left.lines place first in
      let test_place = place + left.size in
      let one_place = suc test_place in
      let over_place = suc one_place in
      let second = suc over_place in
      let judge = second + right.size in
      let middle = right.lines second (first + length left.formats) in
      let test = line at (by.JumpZero second) in
      let yes_ = line at (by.Push (pos 1)) in
      let over = line at (by.Jump (judge + 4)) in
      let back : List Line = test ∷ yes_ ∷ over ∷ (middle ++ judging at judge) in
      let rest = lines_back b.f place left.size front back (sized_l place first) has in
      let judge_at = lines_back b.f second right.size middle (judging at judge) (sized_r second (first + length left.formats)) rest.1.1.1 in
      let p = p_l place first words (lines_front b.f place front back has) (formats_front code.formats first left.formats right.formats formats) e (omega arith) in
      let h0 = p.behind in
      let h1 : b.height one_place ≡ words = height_behind b test_place words 1 test rest.0 h0 words (omega arith) in
      let h2 : b.height over_place ≡ words + 1 = height_behind b one_place words 0 yes_ rest.1.0 (omega arith) (words + 1) (omega arith) in
      let h3 : b.height second ≡ words = height_behind b over_place (words + 1) 0 over rest.1.1.0 (omega arith) words (omega arith) in
      let r = p_r second (first + length left.formats) words (lines_front b.f second middle (judging at judge) rest.1.1.1) (formats_back code.formats first left.formats right.formats formats) h3 (omega arith) in
      let j = judging_passes at judge words judge_at r.behind (omega arith) in
      let q = passes_on b (Unit {0}) second judge (judge + 4) (words + 1) (words + 1) middle (judging at judge) (ap (λ n. second + n) (sized_r second (first + length left.formats))) r j.0 in
      let h4 = j.0.behind in
      let G = IsEntry b (judge + 4) in
      let lift = λ (at_place : ℕ) (n : ℕ) (xs : List Line) (x : Passes b (Unit {0}) at_place xs (judge + 4) n). passes_with b G (Unit {0}) at_place (judge + 4) n xs (λ g entry. tt) x in
      let t0 = one_passes b G test_place words 1 words test rest.0 (λ s. refl) refl h0 (omega arith) (omega arith)
      (λ g entry. record { entry = q.enters g; turn = λ back. absurd (omega arith); height = omega arith }) in
      let t1 = one_passes b G one_place words 0 (words + 1) yes_ rest.1.0 (λ s. refl) refl (omega arith) (omega arith) (omega arith) (λ g entry. tt) in
      let t2 = one_passes b G over_place (words + 1) 0 words over rest.1.1.0 (λ s. refl) refl (omega arith) (omega arith) (omega arith)
      (λ g entry. record { entry = g; turn = λ back. absurd (omega arith); height = omega arith }) in
      let last = middle ++ judging at judge in
      let own = passes_then b G test_place (judge + 4) words (words + 1) test (yes_ ∷ over ∷ last) t0
      (passes_then b G one_place (judge + 4) (words + 1) (words + 1) yes_ (over ∷ last) t1
      (passes_then b G over_place (judge + 4) words (words + 1) over last t2 (lift second (words + 1) last q))) in
      passes_to b (Unit {0}) place (judge + 4) (place + (left.size + suc (suc (suc (right.size + 4))))) (words + 1) (words + 1) (front ++ back) (omega arith) refl
      (passes_on b (Unit {0}) place test_place (judge + 4) (words + 1) (words + 1) front back (ap (λ n. place + n) (sized_l place first)) p
      (passes_with b (Unit {0}) G test_place (judge + 4) (words + 1) back (λ g entry. entry) own))
