-- What holds of the code of expressions.
use Rattle.std.specs.Prelude.{◌≡◌, ◌<◌, ◌≤◌, ℕ, suc, ◌+◌, true, List, [], ◌∷◌, length, ℤ, Some, slice_get}
use Rattle.word_ops.specs.declared.place.Pos.{Pos}
use Rattle.world_model.specs.Action.{Answers}
use Rattle.world_model.specs.Meaning.{Acts}
use Rattle.world_model.specs.Activation.{Slots, word_at}
use Rattle.cilk_ast.specs.declared.program.Function.{Function}
use Rattle.cilk_ast.specs.declared.program.Expr.{Expr}
use Rattle.cilk_ast.specs.Kept.{takes, keeps_expression}
use Rattle.cilk_model.specs.Value.{Calling, value}
use Rattle.threadlet_code.specs.declared.instr.Instr.TheVariants.{Call}
use Rattle.threadlet_code.specs.declared.code.FuncCode.{FuncCode}
use Rattle.threadlet_code.specs.declared.code.Code.{Code}
use Rattle.threadlet_code.specs.Laws.{HasTurns}
use Rattle.threadlet_code.specs.Machine.{Frame, State}
use Rattle.threadlet_code.specs.Running.{from}
use Rattle.codegen_expr.specs.Piece.{line}
use Rattle.codegen_expr.specs.Emitted.{emitted}
use Rattle.codegen_expr.specs.Stands.{LineAt, LinesAt, FormatsAt}

-- A stack with words that were pushed in their order.
abbrev pub with_words : List ℤ → List ℤ → List ℤ
with_words [] stack = stack
with_words (word ∷ words) stack = with_words words (word ∷ stack)

module _ (code : Code) (frame : Frame) (frames : State) (n : ℕ) where
  -- The frame at a place with a stack, over the others.
  abbrev pub standing : ℕ → List ℤ → State
  standing place stack = record { function = frame.function; at = place; slots = frame.slots; stack = stack; targets = frame.targets } ∷ frames

  -- Up to n answers, it goes on from there with each word on top as k says.
  abbrev pub GoesOn : ℕ → List ℤ → (ℤ → Acts) → Type 0
  GoesOn place stack k = (word : ℤ) (answers : Answers) → length answers ≤ n → from code (standing place (word ∷ stack)) answers ≡ k word answers

  -- Calls in the code are what a program's calls are said to be.
  abbrev pub CallsAre : FuncCode → List Function → Calling → Type 0
  CallsAre f functions call = (place : ℕ) (stack : List ℤ) (at : Pos) (g : ℕ) (words : List ℤ) (k : ℤ → Acts) → takes functions g (length words) ≡ true →
      LineAt f place (line at (Call g)) → GoesOn (suc place) stack k → (answers : Answers) → length answers ≤ n →
      from code (standing place (with_words words stack)) answers ≡ call at g words k answers

-- Wherever the code of an expression stands, if what follows goes on with its value, then from its start the actions
-- are made that evaluate it: for code that has turns, whose slots agree with those of the source, and whose calls are
-- the source's.
abbrev pub CodeOfExpressionsActs : Type 0
CodeOfExpressionsActs = (code : Code) → HasTurns code → (frame : Frame) (frames : State) (n : ℕ) (f : FuncCode) → slice_get code.functions frame.function ≡ Some f →
    (functions : List Function) (slots : ℕ) (source : Slots) → ((i : ℕ) → i < slots → word_at frame.slots i ≡ word_at source i) →
    (call : Calling) → CallsAre code frame frames n f functions call →
    (e : Expr) → keeps_expression functions slots e ≡ true → (place first : ℕ) (stack : List ℤ) (k : ℤ → Acts) →
    LinesAt f place ((emitted e).lines place first) → FormatsAt code.formats first (emitted e).formats →
    GoesOn code frame frames n (place + (emitted e).size) stack k →
    (answers : Answers) → length answers ≤ n → from code (standing code frame frames n place stack) answers ≡ value call e source k answers
