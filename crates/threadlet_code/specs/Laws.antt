-- What holds of the machine.
use Rattle.std.specs.Prelude.{◌≡◌, ◌≤◌, ℕ, ℤ, List, [], ◌∷◌, Some, slice_get}
use Rattle.world_model.specs.Action.{Action, Answers}
use Rattle.world_model.specs.Meaning.{make}
use Rattle.threadlet_code.specs.declared.instr.Instr.TheVariants.{Turn}
use Rattle.threadlet_code.specs.declared.code.FuncCode.{FuncCode}
use Rattle.threadlet_code.specs.declared.code.Code.{Code}
use Rattle.threadlet_code.specs.Naming.{jump_of, named}
use Rattle.threadlet_code.specs.Machine.{State, goes, asks, stops, step}
use Rattle.threadlet_code.specs.Running.{from}

-- Each function begins with a Turn, and so does each loop: a jump to its own place or before goes to one.
pub record HasTurns (code : Code) : Type 0 where
  pub entry : (g : ℕ) (f : FuncCode) → slice_get code.functions g ≡ Some f → slice_get f.body 0 ≡ Some Turn
  pub loops : (g : ℕ) (f : FuncCode) (place to : ℕ) → slice_get code.functions g ≡ Some f → named jump_of f place ≡ Some to → to ≤ place →
      slice_get f.body to ≡ Some Turn

-- A silent instruction changes nothing of what is done from a state on.
abbrev pub SilentGoesOn : Type 0
SilentGoesOn = (code : Code) → HasTurns code → (state after : State) (answers : Answers) → step code state ≡ goes after →
    from code state answers ≡ from code after answers

-- An action is made, and its answer leads on.
abbrev pub ActionIsMade : Type 0
ActionIsMade = (code : Code) (state : State) (action : Action) (resume : List ℤ → State) (answers : Answers) → step code state ≡ asks action resume →
    from code state answers ≡ make action (λ answer. from code (resume answer)) answers

-- The last action ends what is done.
abbrev pub LastActionEnds : Type 0
LastActionEnds = (code : Code) (state : State) (action : Action) (answers : Answers) → step code state ≡ stops action →
    from code state answers ≡ action ∷ []
