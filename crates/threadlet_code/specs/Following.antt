-- The state of a strand that has got some answers.
use Rattle.std.specs.Prelude.{◌≡◌, ℕ, ℤ, suc, List, [], ◌∷◌, ◌++◌, length, Some, true, slice_get}
use Rattle.world_model.specs.Action.{Action, Answers}
use Rattle.world_model.specs.Step.{last_of}
use Rattle.threadlet_code.specs.declared.code.Code.{Code}
use Rattle.threadlet_code.specs.Machine.{State, Next, goes, asks, stops, step}
use Rattle.threadlet_code.specs.Running.{due, started, acts, halt}
use Rattle.threadlet_code.specs.Breaches.{is_sound}

-- What comes next once an action is answered.
abbrev pub resumed : Code → List ℤ → Next → Next
resumed code answer (asks action resume) = due code (resume answer)
resumed code answer next = next

-- The same of several answers.
abbrev pub answered_all : Answers → Code → Next → Next
answered_all [] code next = next
answered_all (answer ∷ answers) code next = answered_all answers code (resumed code answer next)

-- A state follows answers to a strand that runs a function on arguments: what comes next there is what comes next
-- once the strand has got them.
abbrev pub Follows : Code → ℕ → List ℤ → Answers → State → Type 0
Follows code g args answers state = due code state ≡ answered_all answers code (due code (started g (slice_get code.functions g) args))

-- ---- what holds of it

-- A strand follows no answers at its start, after silent instructions what it followed before, and once its action
-- is answered that answer too.
abbrev pub StartFollows : Type 0
StartFollows = (code : Code) (g : ℕ) (args : List ℤ) → Follows code g args [] (started g (slice_get code.functions g) args)

abbrev pub SilentFollows : Type 0
SilentFollows = (code : Code) → is_sound code ≡ true → (g : ℕ) (args : List ℤ) (answers : Answers) (state after : State) → step code state ≡ goes after →
    Follows code g args answers state → Follows code g args answers after

abbrev pub AnswerFollows : Type 0
AnswerFollows = (code : Code) (g : ℕ) (args : List ℤ) (answers : Answers) (state : State) (action : Action) (resume : List ℤ → State) (answer : List ℤ) →
    due code state ≡ asks action resume → Follows code g args answers state → Follows code g args (answers ++ answer ∷ []) (resume answer)

-- The action that comes next is the last that the strand makes on its answers, and it has made one for each answer.
abbrev pub NextIsLast : Type 0
NextIsLast = (code : Code) (g : ℕ) (args : List ℤ) (answers : Answers) (state : State) (action : Action) (resume : List ℤ → State) →
    due code state ≡ asks action resume → Follows code g args answers state →
    (last_of (acts code g args answers) ≡ Some action) × (length (acts code g args answers) ≡ suc (length answers))

abbrev pub EndIsLast : Type 0
EndIsLast = (code : Code) (g : ℕ) (args : List ℤ) (answers : Answers) (state : State) (action : Action) →
    due code state ≡ stops action → Follows code g args answers state → last_of (acts code g args answers) ≡ Some action

-- ---- where a strand halts, instruction by instruction

-- Behind a silent instruction it halts in the same state, with one instruction less on the way.
abbrev pub SilentHaltsLater : Type 0
SilentHaltsLater = (code : Code) → is_sound code ≡ true → (state after : State) → step code state ≡ goes after →
    ((halt code state).state ≡ (halt code after).state) × ((halt code state).silent ≡ suc (halt code after).silent)

-- Before an action, or its last, it halts at once.
abbrev pub ActionHaltsHere : Type 0
ActionHaltsHere = (code : Code) (state : State) (action : Action) (resume : List ℤ → State) → step code state ≡ asks action resume →
    halt code state ≡ record { silent = 0; state = state }

abbrev pub LastActionHaltsHere : Type 0
LastActionHaltsHere = (code : Code) (state : State) (action : Action) → step code state ≡ stops action → halt code state ≡ record { silent = 0; state = state }
