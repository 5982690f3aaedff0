-- What a frame does with its next line.
use Rattle.std.proofs.Common.{◌≡◌, ℕ, suc, ◌+◌, ◌≤◌, List, [], ◌∷◌, ◌++◌, length, Some, refl, ap, ◌∙◌, arith, ℤ}
use Rattle.std.specs.Prelude.{slice_get}
use Rattle.world_model.specs.Action.{Action, Answers}
use Rattle.world_model.specs.Meaning.{Acts, make}
use Rattle.world_model.specs.Activation.{Slots, Targets}
use Rattle.threadlet_code.specs.declared.code.FuncCode.{FuncCode}
use Rattle.threadlet_code.specs.declared.code.Code.{Code}
use Rattle.threadlet_code.specs.Operands.{operands, taken}
use Rattle.threadlet_code.specs.Machine.{Frame, State, Next, goes, asks, stops, action_of, acts_or_goes, does, pops, meets, enters, step}
use Rattle.codegen_expr.specs.Piece.{Line}
use Rattle.codegen_expr.specs.Stands.{LineAt}

-- What is done from a state on, by the three laws of the machine.
pub record Laws (code : Code) : Type 0 where
  pub from : State → Answers → List Action
  pub goes_on : (state after : State) (answers : Answers) → step code state ≡ goes after → from state answers ≡ from after answers
  pub asks_on : (state : State) (action : Action) (resume : List ℤ → State) (answers : Answers) → step code state ≡ asks action resume →
      from state answers ≡ make action (λ answer. from (resume answer)) answers
  pub stops_on : (state : State) (action : Action) (answers : Answers) → step code state ≡ stops action → from state answers ≡ action ∷ []

-- A frame without its place and its stack.
pub record Seat (code : Code) : Type 0 where
  pub function : ℕ
  pub f : FuncCode
  pub known : slice_get code.functions function ≡ Some f
  pub slots : Slots
  pub targets : Targets
  pub frames : State

abbrev pub frame_of : {code : Code} → Seat code → ℕ → List ℤ → Frame
frame_of seat place stack = record { function = seat.function; at = place; slots = seat.slots; stack = stack; targets = seat.targets }

abbrev pub state_of : {code : Code} → Seat code → ℕ → List ℤ → State
state_of seat place stack = frame_of seat place stack ∷ seat.frames

-- The words on a stack, pushed in their order.
abbrev pub pushed : List ℤ → List ℤ → List ℤ
pushed [] stack = stack
pushed (word ∷ words) stack = pushed words (word ∷ stack)

-- What was pushed in order is taken.
taken_more : (words stack more : List ℤ) (m : ℕ) → taken (length words + m) (pushed words stack) more ≡ taken m stack (words ++ more)
taken_more [] stack more m = ap (λ k. taken k stack more) (omega arith)
taken_more (word ∷ words) stack more m =
    let e : suc (length words) + m ≡ length words + suc m = omega arith in
    ap (λ k. taken k (pushed words (word ∷ stack)) more) e ∙ taken_more words (word ∷ stack) more (suc m)

append_nil : (words : List ℤ) → words ++ [] ≡ words
append_nil [] = refl
append_nil (word ∷ words) = ap (λ l. word ∷ l) (append_nil words)

pub taken_all : (words stack : List ℤ) (m : ℕ) → length words ≡ m → taken m (pushed words stack) [] ≡ Some (words, stack)
taken_all words stack m e =
    let n : m ≡ length words + 0 = omega arith in
    ap (λ k. taken k (pushed words stack) []) n ∙ taken_more words stack [] 0 ∙ ap (λ l. Some (l, stack)) (append_nil words)

-- Answers up to a length.
pub make_same : (n : ℕ) (a : Action) (f g : List ℤ → Acts) → ((r : List ℤ) (B : Answers) → length B ≤ n → f r B ≡ g r B) → (A : Answers) → length A ≤ n → make a f A ≡ make a g A
make_same n a f g e [] le = refl
make_same n a f g e (r ∷ B) le = ap (λ l. a ∷ l) (e r B (omega arith))

module _ {code : Code} (seat : Seat code) where
  abbrev pub depth : ℕ
  depth = suc (length seat.frames)

  -- A line with its operands on the stack.
  abbrev pub Effect : Line → List ℤ → ℕ → List ℤ → Next
  Effect line words place stack =
      acts_or_goes code line.pos line.instr words (frame_of seat place stack) seat.frames (action_of code line.pos depth line.instr words)

  pub step_line : (line : Line) (place : ℕ) (stack words : List ℤ) (m : ℕ) → LineAt seat.f place line → operands code line.instr ≡ Some m → length words ≡ m →
      step code (state_of seat place (pushed words stack)) ≡ Effect line words place stack
  step_line line place stack words m here counted count =
      let frame = frame_of seat place (pushed words stack) in
      ap (enters code frame seat.frames) seat.known
      ∙ ap (meets code seat.f frame seat.frames) here.instr
      ∙ ap (λ p. pops code p line.instr frame seat.frames (operands code line.instr)) here.pos
      ∙ ap (pops code line.pos line.instr frame seat.frames) counted
      ∙ ap (does code line.pos line.instr frame seat.frames) (taken_all words stack m count)

  module _ (laws : Laws code) where
    -- A silent line.
    pub silent : (line : Line) (place : ℕ) (stack words : List ℤ) (m : ℕ) → LineAt seat.f place line → operands code line.instr ≡ Some m → length words ≡ m →
        (after : State) → Effect line words place stack ≡ goes after → (A : Answers) → laws.from (state_of seat place (pushed words stack)) A ≡ laws.from after A
    silent line place stack words m here counted count after e A =
        laws.goes_on (state_of seat place (pushed words stack)) after A (step_line line place stack words m here counted count ∙ e)

    -- A line that makes an action.
    pub acting : (line : Line) (place : ℕ) (stack words : List ℤ) (m : ℕ) → LineAt seat.f place line → operands code line.instr ≡ Some m → length words ≡ m →
        (a : Action) (resume : List ℤ → State) → Effect line words place stack ≡ asks a resume → (A : Answers) →
        laws.from (state_of seat place (pushed words stack)) A ≡ make a (λ r. laws.from (resume r)) A
    acting line place stack words m here counted count a resume e A =
        laws.asks_on (state_of seat place (pushed words stack)) a resume A (step_line line place stack words m here counted count ∙ e)

    -- A line that makes the last action.
    pub stopping : (line : Line) (place : ℕ) (stack words : List ℤ) (m : ℕ) → LineAt seat.f place line → operands code line.instr ≡ Some m → length words ≡ m →
        (a : Action) → Effect line words place stack ≡ stops a → (A : Answers) → laws.from (state_of seat place (pushed words stack)) A ≡ a ∷ []
    stopping line place stack words m here counted count a e A =
        laws.stops_on (state_of seat place (pushed words stack)) a A (step_line line place stack words m here counted count ∙ e)

    pub at_place : (p q : ℕ) (stack : List ℤ) (A : Answers) → p ≡ q → laws.from (state_of seat p stack) A ≡ laws.from (state_of seat q stack) A
    at_place p q stack A e = ap (λ r. laws.from (state_of seat r stack) A) e
