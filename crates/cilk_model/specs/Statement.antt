-- What a statement does. It is given what follows it, what follows a break, and what follows a continue.
use Rattle.std.specs.Prelude.{ℕ, zero, suc, Bool, if◌then◌else◌, List, [], ◌∷◌, ◌++◌, map, Option, Some, None, ℤ, pos, int_lt, slice_set}
use Rattle.std.specs.Int.{w64, int_wrapping_add}
use Rattle.word_ops.specs.declared.place.Pos.{Pos}
use Rattle.mem_atomics.specs.declared.op.Op.TheVariants as op
use Rattle.cilk_ast.specs.declared.program.Expr.{Expr}
use Rattle.cilk_ast.specs.declared.program.Stmt.{Stmt, Nothing, Block', Eval, Set, Store, AddTo, Spawn, Each, Break, Continue, Return, Sync, Row_of-Stmt as Stmts, end_of-Stmt as no_stmts, more_of-Stmt as more_stmts}
use Rattle.cilk_ast.specs.Statement.{If, Loop}
use Rattle.world_model.specs.Action as act
use Rattle.world_model.specs.Action.{Hint}
use Rattle.world_model.specs.Meaning.{Acts, make, word_of}
use Rattle.world_model.specs.Activation.{Slots, Targets, word_at, joined}
use Rattle.cilk_model.specs.Value.{Calling, is_true, value, values_of}

-- What is done from a point of a body on, by the slots and targets there.
abbrev pub Flow : Type 0
Flow = Slots → Targets → Acts

-- Joins the children of the activation at a depth.
abbrev pub syncs : ℕ → Flow → Flow
syncs depth next slots targets = make (act.Sync depth) (λ results. next (joined slots targets results) [])

-- Evaluates the hint of a spawn, if it has one, and goes on with it.
abbrev pub hinted : Calling → Pos → Option Expr → Slots → (Option Hint → Acts) → Acts
hinted call at None slots next = next None
hinted call at (Some hint) slots next = value call hint slots (λ a. next (Some (record { pos = at; address = a })))

-- Stores a word at an address, and goes on.
abbrev pub stores : Pos → ℤ → ℤ → Acts → Acts
stores at address word next = make (act.Issue at op.Store address word) (λ _. next)

-- What an activation at a depth does to return a word: where its function spawns it syncs first. Then `done`
-- goes on with the word.
abbrev pub returns : ℕ → Bool → (ℤ → Acts) → ℤ → Flow
returns depth spawns done x slots targets = if spawns then syncs depth (λ _ _. done x) slots targets else done x

-- A loop: a Turn, the test, and where that is true the body, the step, and again. The number is how many more
-- tests there can be: each uses an answer.
module _ (test : Slots → (ℤ → Acts) → Acts) (body step : Flow → Flow) (next : Flow) where
  abbrev pub repeats : ℕ → Flow
  repeats zero slots targets = λ _. []
  repeats (suc n) slots targets =
      make act.Turn (λ _. test slots (λ x. if is_true x then body (step (repeats n)) slots targets else next slots targets))

-- A `cilk_for` from i on: a Turn, and where i is under the bound a child with i and the copies, and again with
-- the next i. The number is as for a loop.
module _ (depth function : ℕ) (copies : List ℤ) (high : ℤ) (next : Targets → Acts) where
  abbrev pub spawns_each : ℕ → ℤ → Targets → Acts
  spawns_each zero i targets = λ _. []
  spawns_each (suc n) i targets =
      make act.Turn (λ _.
      if int_lt i high
      then make (act.Spawn depth function (i ∷ copies) None) (λ _. spawns_each n (int_wrapping_add w64 i (pos 1)) (targets ++ None ∷ []))
      else next targets)

-- Evaluates an expression, and goes on by its word at the same slots and targets.
abbrev pub evaluates : Calling → Expr → (ℤ → Flow) → Flow
evaluates call e next slots targets = value call e slots (λ x. next x slots targets)

-- Adds a word to the word at an address: that is loaded first, and then what is added is evaluated.
abbrev pub adds : Calling → Pos → ℤ → Expr → Flow → Flow
adds call at a e next slots targets =
    make (act.Load at a) (λ old. value call e slots (λ v. stores at a (int_wrapping_add w64 (word_of old) v) (next slots targets)))

-- Spawns a child of the activation at a depth: its hint is evaluated first, then its arguments.
abbrev pub starts : Calling → ℕ → Pos → Option ℕ → ℕ → Option Expr → List Expr → Flow → Flow
starts call depth at target function hint args next slots targets =
    hinted call at hint slots (λ place. values_of call args slots (λ words.
    make (act.Spawn depth function words place) (λ _. next slots (targets ++ target ∷ []))))

-- Goes one of two ways by the word of a test.
abbrev pub chooses : Calling → Expr → Flow → Flow → Flow
chooses call test yes_ no_ = evaluates call test (λ x slots targets. if is_true x then yes_ slots targets else no_ slots targets)

-- Spawns a child for each number from one bound up to another, with copies of slots, and joins them all. The
-- bounds are evaluated once.
abbrev pub deals : Calling → ℕ → Expr → Expr → ℕ → List ℕ → Flow → ℕ → Flow
deals call depth low high function copies next fuel =
    evaluates call low (λ i. evaluates call high (λ bound slots.
    spawns_each depth function (map (word_at slots) copies) bound (syncs depth next slots) fuel i))

-- An activation at a depth: how it calls, whether its function spawns, how many turns its loops can have, and
-- what is done with what it returns.
module _ (call : Calling) (depth : ℕ) (spawns : Bool) (fuel : ℕ) (done : ℤ → Acts) where
  abbrev mutual
    -- Runs a statement: a case for each form, given what follows it, a break and a continue.
    pub runs : Stmt → Flow → Flow → Flow → Flow
    runs Nothing next broken continued = next
    runs (Block' n body) next broken continued = runs_all body next broken continued
    runs (Eval e) next broken continued = evaluates call e (λ _. next)
    runs (Set slot e) next broken continued = evaluates call e (λ x slots. next (slice_set slots slot x))
    runs (Store at address e) next broken continued = evaluates call address (λ a. evaluates call e (λ v slots targets. stores at a v (next slots targets)))
    runs (AddTo at address e) next broken continued = evaluates call address (λ a. adds call at a e next)
    runs (Spawn at target function hint args) next broken continued = starts call depth at target function hint args next
    runs (If test yes_ no_) next broken continued = chooses call test (runs yes_ next broken continued) (runs no_ next broken continued)
    runs (Loop test step body) next broken continued =
        repeats (value call test) (λ again. runs body again next again) (λ again. runs step again broken continued) next fuel
    runs (Each at low high function copies) next broken continued = deals call depth low high function copies next fuel
    runs Break next broken continued = broken
    runs Continue next broken continued = continued
    runs (Return e) next broken continued = evaluates call e (returns depth spawns done)
    runs Sync next broken continued = syncs depth next

    pub runs_all : {n : _} → Stmts n → Flow → Flow → Flow → Flow
    runs_all no_stmts next broken continued = next
    runs_all (more_stmts first rest) next broken continued = runs first (runs_all rest next broken continued) broken continued
