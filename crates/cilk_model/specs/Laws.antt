-- What holds of the actions of every program.
use Rattle.std.specs.Prelude.{◌≡◌, ◌≤◌, ℕ, suc, ℤ, List, ◌∷◌, ◌++◌, length, Bool, true, false}
use Rattle.std.specs.List.{list_any}
use Rattle.cilk_ast.specs.declared.program.Function.{Function}
use Rattle.world_model.specs.Action.{Action, Turn, End, Trap, Answers, Load, Issue, Fetch, Init, Fence, Move, Where, Print, Alloc, Spawn, Sync}
use Rattle.cilk_model.specs.Acts.{acts}

-- A strand does nothing after this action.
abbrev pub is_final : Action → Bool
is_final Turn = false
is_final (Load _ _) = false
is_final (Issue _ _ _ _) = false
is_final (Fetch _ _ _) = false
is_final (Init _ _ _) = false
is_final Fence = false
is_final (Move _ _) = false
is_final Where = false
is_final (Print _) = false
is_final (Alloc _) = false
is_final (Spawn _ _ _ _) = false
is_final (Sync _) = false
is_final (End _) = true
is_final (Trap _ _) = true

-- A strand that has made these actions has ended or trapped.
abbrev pub is_over : List Action → Bool
is_over actions = list_any is_final actions

-- The first action of every strand is a Turn.
abbrev pub StrandsBeginWithTurn : Type 0
StrandsBeginWithTurn = (functions : List Function) (function : ℕ) (args : List ℤ) (answers : Answers) →
    (rest : List Action) × (acts functions function args answers ≡ Turn ∷ rest)

-- Actions on answers go on where there are more answers: what was made stays made.
abbrev pub MoreAnswersMakeMoreActions : Type 0
MoreAnswersMakeMoreActions = (functions : List Function) (function : ℕ) (args : List ℤ) (answers more : Answers) →
    (rest : List Action) × (acts functions function args (answers ++ more) ≡ acts functions function args answers ++ rest)

-- A strand that has ended or trapped makes no more actions, whatever the answers.
abbrev pub OverIsOver : Type 0
OverIsOver = (functions : List Function) (function : ℕ) (args : List ℤ) (answers more : Answers) →
    is_over (acts functions function args answers) ≡ true →
    acts functions function args (answers ++ more) ≡ acts functions function args answers

-- Until it ends or traps, a strand has made an action for each answer, and one that is not answered.
abbrev pub OneActionWaits : Type 0
OneActionWaits = (functions : List Function) (function : ℕ) (args : List ℤ) (answers : Answers) →
    is_over (acts functions function args answers) ≡ false →
    length (acts functions function args answers) ≡ suc (length answers)

-- A strand never makes more actions than that.
abbrev pub ActionsAreBounded : Type 0
ActionsAreBounded = (functions : List Function) (function : ℕ) (args : List ℤ) (answers : Answers) →
    length (acts functions function args answers) ≤ suc (length answers)
