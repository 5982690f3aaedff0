-- What a strand does: the actions of a function on arguments, by its answers.
use Rattle.std.specs.Prelude.{ℕ, zero, suc, ◌==◌, if◌then◌else◌, List, [], ◌∷◌, length, Option, Some, None, ℤ, pos, slice_get}
use Rattle.word_ops.specs.declared.ending.TrapKind.TheVariants as kind
use Rattle.cilk_ast.specs.declared.program.Function.{Function}
use Rattle.world_model.specs.Action as act
use Rattle.world_model.specs.Action.{Action, Answers}
use Rattle.world_model.specs.Meaning.{Acts, make}
use Rattle.world_model.specs.Activation.{max_depth, first_slots}
use Rattle.cilk_model.specs.Value.{traps, Calling}
use Rattle.cilk_model.specs.Statement.{Flow, returns, runs}

-- Runs a function at a depth on arguments, and goes on with what it returns.
abbrev pub Running : Type 0
Running = ℕ → ℕ → List ℤ → (ℤ → Acts) → Acts

-- A call from an activation at a depth: a Turn, and the function one deeper; a trap from the deepest one.
abbrev pub calls : Running → ℕ → Calling
calls run depth at function args next =
    if depth == max_depth then traps at kind.Depth else make act.Turn (λ _. run (suc depth) function args next)

-- A body, from the start on; where it falls off its end it returns 0.
abbrev pub body_of : Calling → ℕ → ℕ → Option Function → List ℤ → (ℤ → Acts) → Acts
body_of call depth fuel None args done = done (pos 0)
body_of call depth fuel (Some f) args done =
    let over : Flow = returns depth f.spawns done (pos 0) in
    runs call depth f.spawns fuel done f.body over over over (first_slots f.slots args) []

module _ (functions : List Function) where
  -- A function after its Turn. The number is how many more Turns there can be on the way into calls, or in one
  -- loop: each uses an answer.
  abbrev pub run : ℕ → Running
  run zero depth function args done = λ _. []
  run (suc n) depth function args done = body_of (calls (run n) depth) depth (suc n) (slice_get functions function) args done

  -- The actions of a strand that runs a function on arguments: a Turn, the body at depth 1, and its End.
  abbrev pub acts : ℕ → List ℤ → Answers → List Action
  acts function args answers =
      make act.Turn (λ _. run (length answers) 1 function args (λ x _. act.End x ∷ [])) answers
