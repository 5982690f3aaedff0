-- Pieces that leave the values of expressions, and how larger ones do.
use Rattle.std.proofs.Common.{◌≡◌, ℕ, suc, ◌+◌, ◌≤◌, List, [], ◌∷◌, length, Some, refl, ap, ◌∙◌, arith, ℤ, pos}
use Rattle.world_model.specs.Action.{Action, Answers}
use Rattle.world_model.specs.Meaning.{Acts, word_of}
use Rattle.cilk_model.specs.Value.{asks as asking, does as doing}
use Rattle.threadlet_code.specs.declared.code.Code.{Code}
use Rattle.threadlet_code.specs.Operands.{operands}
use Rattle.threadlet_code.specs.Machine.{Frame, goes, onward, push, answered, action_of, acts_or_goes}
use Rattle.codegen_expr.specs.Piece.{Line, zero_line, Piece, in_order, operation}
use Rattle.codegen_expr.specs.Stands.{LineAt, LinesAt, FormatsAt}
use Rattle.codegen_expr.proofs.Standing.{lines_front, lines_back, formats_front, formats_back}
use Rattle.codegen_expr.proofs.Steps.{Laws, Seat, frame_of, state_of, pushed, make_same, depth, Effect, silent, acting, at_place}

-- A value by continuation, and values.
abbrev pub Valued : Type 0
Valued = (ℤ → Acts) → Acts

abbrev pub ManyValued : Type 0
ManyValued = (List ℤ → Acts) → Acts

-- A piece has as many lines as it says.
abbrev pub IsSized : Piece → Type 0
IsSized piece = (place first : ℕ) → length (piece.lines place first) ≡ piece.size

module _ {code : Code} (seat : Seat code) (laws : Laws code) (n : ℕ) where
  -- What is so behind an expression: its value is on the stack, and then comes k.
  abbrev pub After : (ℤ → Acts) → ℕ → List ℤ → Type 0
  After k place stack = (x : ℤ) (B : Answers) → length B ≤ n → laws.from (state_of seat place (x ∷ stack)) B ≡ k x B

  -- The same of several, and so many.
  abbrev pub AfterAll : (List ℤ → Acts) → ℕ → ℕ → List ℤ → Type 0
  AfterAll k m place stack = (xs : List ℤ) → length xs ≡ m → (B : Answers) → length B ≤ n → laws.from (state_of seat place (pushed xs stack)) B ≡ k xs B

  -- Wherever the piece stands, what goes on with its value behind it goes on from its start.
  abbrev pub Makes : Piece → Valued → Type 0
  Makes piece value = (place first : ℕ) (stack : List ℤ) (k : ℤ → Acts) → LinesAt seat.f place (piece.lines place first) → FormatsAt code.formats first piece.formats →
      After k (place + piece.size) stack → (A : Answers) → length A ≤ n → laws.from (state_of seat place stack) A ≡ value k A

  abbrev pub MakesAll : List Piece → ManyValued → Type 0
  MakesAll pieces values = (place first : ℕ) (stack : List ℤ) (k : List ℤ → Acts) → LinesAt seat.f place ((in_order pieces).lines place first) →
      FormatsAt code.formats first (in_order pieces).formats → AfterAll k (length pieces) (place + (in_order pieces).size) stack →
      (A : Answers) → length A ≤ n → laws.from (state_of seat place stack) A ≡ values k A

  pub ends : (k : ℤ → Acts) (p q : ℕ) (stack : List ℤ) → p ≡ q → After k q stack → After k p stack
  ends k p q stack e after x B le = at_place seat laws p q (x ∷ stack) B e ∙ after x B le

  pub none_made : MakesAll [] (λ k. k [])
  none_made place first stack k has formats after A le = at_place seat laws place (place + 0) stack A (omega arith) ∙ after [] refl A le

  pub more_made : (piece : Piece) (pieces : List Piece) (value : Valued) (values : ManyValued) → IsSized piece → Makes piece value → MakesAll pieces values →
      MakesAll (piece ∷ pieces) (λ k. value (λ x. values (λ xs. k (x ∷ xs))))
  more_made piece pieces value values sized one all place first stack k has formats after A le =
      let front = piece.lines place first in
      let rest = in_order pieces in
      let back = rest.lines (place + piece.size) (first + length piece.formats) in
      let same : place + piece.size + rest.size ≡ place + (piece.size + rest.size) = omega arith in
      one place first stack (λ x. values (λ xs. k (x ∷ xs))) (lines_front seat.f place front back has) (formats_front code.formats first piece.formats rest.formats formats)
      (λ x B le_b. all (place + piece.size) (first + length piece.formats) (x ∷ stack) (λ xs. k (x ∷ xs))
      (lines_back seat.f place piece.size front back (sized place first) has) (formats_back code.formats first piece.formats rest.formats formats)
      (λ xs count C le_c. at_place seat laws (place + piece.size + rest.size) (place + (piece.size + rest.size)) (pushed xs (x ∷ stack)) C same ∙ after (x ∷ xs) (ap suc count) C le_c) B le_b)
      A le

  -- What an expression's own lines do with the words of its parts.
  abbrev pub Finishes : List Line → ℕ → ((ℤ → Acts) → List ℤ → Acts) → Type 0
  Finishes own m last = (place : ℕ) (stack : List ℤ) (k : ℤ → Acts) → LinesAt seat.f place own → After k (place + length own) stack →
      (xs : List ℤ) → length xs ≡ m → (B : Answers) → length B ≤ n → laws.from (state_of seat place (pushed xs stack)) B ≡ last k xs B

  pub operation_made : (pieces : List Piece) (values : ManyValued) (own : List Line) (last : (ℤ → Acts) → List ℤ → Acts) → IsSized (in_order pieces) → MakesAll pieces values →
      Finishes own (length pieces) last → Makes (operation pieces own) (λ k. values (last k))
  operation_made pieces values own last sized all finish place first stack k has formats after A le =
      let words = in_order pieces in
      let front = words.lines place first in
      let same : place + words.size + length own ≡ place + (words.size + length own) = omega arith in
      all place first stack (last k) (lines_front seat.f place front own has) formats
      (λ xs count B le_b. finish (place + words.size) stack k (lines_back seat.f place words.size front own (sized place first) has)
      (ends k (place + words.size + length own) (place + (words.size + length own)) stack same after) xs count B le_b) A le

  -- One silent line that pushes a word made of its operands.
  pub word_made : (l : Line) (m : ℕ) (word : List ℤ → ℤ) → operands code l.instr ≡ Some m →
      ((place : ℕ) (stack xs : List ℤ) → Effect seat l xs place stack ≡ goes (state_of seat (suc place) (word xs ∷ stack))) → Finishes (l ∷ []) m (λ k xs. k (word xs))
  word_made l m word counted effect place stack k has after xs count B le =
      silent seat laws l place stack xs m has.0 counted count (state_of seat (suc place) (word xs ∷ stack)) (effect place stack xs) B
      ∙ ends k (suc place) (place + 1) stack (omega arith) after (word xs) B le

  -- One line that makes an action and pushes the word of its answer.
  pub answer_made : (l : Line) (m : ℕ) (action : List ℤ → Action) → operands code l.instr ≡ Some m →
      ((xs : List ℤ) → action_of code l.pos (depth seat) l.instr xs ≡ Some (action xs)) →
      ((r : List ℤ) (at : Frame) → answered l.instr r at ≡ push (word_of r) at) → Finishes (l ∷ []) m (λ k xs. asking (action xs) k)
  answer_made l m action counted is pushes place stack k has after xs count B le =
      let frame = frame_of seat place stack in
      acting seat laws l place stack xs m has.0 counted count (action xs) (λ r. onward (answered l.instr r frame) ∷ seat.frames)
      (ap (acts_or_goes code l.pos l.instr xs frame seat.frames) (is xs)) B
      ∙ make_same n (action xs) (λ r. laws.from (onward (answered l.instr r frame) ∷ seat.frames)) (λ r. k (word_of r))
      (λ r C le_c. ap (λ g. laws.from (onward g ∷ seat.frames) C) (pushes r frame) ∙ ends k (suc place) (place + 1) stack (omega arith) after (word_of r) C le_c) B le

  -- A line that makes an action without a word, and one that pushes 0.
  pub zero_made : (k : ℤ → Acts) (place : ℕ) (stack : List ℤ) → LineAt seat.f place zero_line → After k (suc place) stack → (B : Answers) → length B ≤ n →
      laws.from (state_of seat place stack) B ≡ k (pos 0) B
  zero_made k place stack has after B le = silent seat laws zero_line place stack [] 0 has refl refl _ refl B ∙ after (pos 0) B le

  pub action_made : (l : Line) (m : ℕ) (action : List ℤ → Action) → operands code l.instr ≡ Some m →
      ((xs : List ℤ) → action_of code l.pos (depth seat) l.instr xs ≡ Some (action xs)) →
      ((r : List ℤ) (at : Frame) → answered l.instr r at ≡ at) → Finishes (l ∷ zero_line ∷ []) m (λ k xs. doing (action xs) k)
  action_made l m action counted is stays place stack k has after xs count B le =
      let frame = frame_of seat place stack in
      acting seat laws l place stack xs m has.0 counted count (action xs) (λ r. onward (answered l.instr r frame) ∷ seat.frames)
      (ap (acts_or_goes code l.pos l.instr xs frame seat.frames) (is xs)) B
      ∙ make_same n (action xs) (λ r. laws.from (onward (answered l.instr r frame) ∷ seat.frames)) (λ r. k (pos 0))
      (λ r C le_c. ap (λ g. laws.from (onward g ∷ seat.frames) C) (stays r frame)
      ∙ zero_made k (suc place) stack has.1.0 (ends k (suc (suc place)) (place + 2) stack (omega arith) after) C le_c) B le
