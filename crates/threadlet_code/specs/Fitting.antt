-- What a strand of verified code keeps while it runs.
use Rattle.std.specs.Prelude.{◌≡◌, ◌≢◌, ◌≤◌, ◌<◌, ◌+◌, ℕ, ℤ, suc, true, false, List, [], ◌∷◌, length, Option, Some, None, slice_get}
use Rattle.world_model.specs.Action.{Action, Hint, Spawn}
use Rattle.world_model.specs.Meaning.{children_after}
use Rattle.threadlet_code.specs.declared.instr.Instr.TheVariants.{Return}
use Rattle.threadlet_code.specs.declared.code.FuncCode.{FuncCode}
use Rattle.threadlet_code.specs.declared.code.Code.{Code}
use Rattle.world_model.specs.Activation.{Targets, max_depth}
use Rattle.threadlet_code.specs.Naming.{slot_named, named}
use Rattle.threadlet_code.specs.Machine.{Frame, State, goes, asks, stuck, entered, step}
use Rattle.threadlet_code.specs.Running.{owed, due, halt}
use Rattle.threadlet_code.specs.Ways.{heights, known_at}
use Rattle.threadlet_code.specs.Breaches.{is_sound}

-- ---- frames that fit

-- Targets are none or slots.
abbrev pub AreSlots : ℕ → Targets → Type 0
AreSlots slots [] = Unit {0}
AreSlots slots (None ∷ targets) = AreSlots slots targets
AreSlots slots (Some slot ∷ targets) = (slot < slots) × AreSlots slots targets

-- A frame fits the code: its function is there, it has that function's slots, its targets are among them, and its
-- stack has the height of its place; where it waits for a value, that is still to come.
pub record FitsFrame (code : Code) (waits : ℕ) (frame : Frame) : Type 0 where
  pub f : FuncCode
  pub known : slice_get code.functions frame.function ≡ Some f
  pub slots : length frame.slots ≡ f.slots
  pub targets : AreSlots f.slots frame.targets
  pub height : known_at (heights code frame.function f) frame.at ≡ Some (length frame.stack + waits)

-- Frames that wait for a call.
abbrev pub AllWait : Code → State → Type 0
AllWait code [] = Unit {0}
AllWait code (frame ∷ frames) = FitsFrame code 1 frame × AllWait code frames

-- A state fits the code: the deepest frame runs, and the others wait for it.
abbrev pub Fits : Code → State → Type 0
Fits code [] = ⊥
Fits code (frame ∷ frames) = FitsFrame code 0 frame × AllWait code frames × (suc (length frames) ≤ max_depth)

-- ---- frames that owe what they should

-- A frame owes nothing where its function spawns nothing, nor before a Return.
pub record IsTidy (code : Code) (frame : Frame) : Type 0 where
  pub plain : (f : FuncCode) → slice_get code.functions frame.function ≡ Some f → f.spawns ≡ false → frame.targets ≡ []
  pub ready : (f : FuncCode) → slice_get code.functions frame.function ≡ Some f → slice_get f.body frame.at ≡ Some Return → frame.targets ≡ []

abbrev pub AllTidy : Code → State → Type 0
AllTidy code [] = Unit {0}
AllTidy code (frame ∷ frames) = IsTidy code frame × AllTidy code frames

-- ---- what holds of verified code

-- A function that starts with as many arguments as it has parameters fits, and owes nothing.
abbrev pub StartsFit : Type 0
StartsFit = (code : Code) → is_sound code ≡ true → (g : ℕ) (f : FuncCode) (args : List ℤ) → slice_get code.functions g ≡ Some f → length args ≡ f.params →
    Fits code (entered g f args ∷ []) × AllTidy code (entered g f args ∷ [])

-- An operand, a function, a format or an instruction is never missing.
abbrev pub NeverStuck : Type 0
NeverStuck = (code : Code) → is_sound code ≡ true → (state : State) → Fits code state → step code state ≡ stuck → ⊥

-- Nor is a slot.
abbrev pub SlotsAreThere : Type 0
SlotsAreThere = (code : Code) → is_sound code ≡ true → (frame : Frame) (fit : FitsFrame code 0 frame) (slot : ℕ) →
    named slot_named fit.f frame.at ≡ Some slot → slot < length frame.slots

-- A state that fits is followed by states that do.
abbrev pub SilentFits : Type 0
SilentFits = (code : Code) → is_sound code ≡ true → (state after : State) → Fits code state → step code state ≡ goes after → Fits code after

abbrev pub AnswerFits : Type 0
AnswerFits = (code : Code) → is_sound code ≡ true → (state : State) (action : Action) (resume : List ℤ → State) (answer : List ℤ) → Fits code state →
    step code state ≡ asks action resume → Fits code (resume answer)

-- A child starts with as many arguments as its function has parameters.
abbrev pub ChildrenFit : Type 0
ChildrenFit = (code : Code) → is_sound code ≡ true → (state : State) (depth g : ℕ) (args : List ℤ) (hint : Option Hint) (resume : List ℤ → State) → Fits code state →
    step code state ≡ asks (Spawn depth g args hint) resume → (f : FuncCode) × (slice_get code.functions g ≡ Some f) × (length args ≡ f.params)

-- Tidy frames stay so, a silent instruction leaves what each depth owes, and an answered action changes it as it
-- changes the children to join.
abbrev pub SilentStaysTidy : Type 0
SilentStaysTidy = (code : Code) → is_sound code ≡ true → (state after : State) → AllTidy code state → step code state ≡ goes after →
    AllTidy code after × ((depth : ℕ) → owed depth after ≡ owed depth state)

abbrev pub AnswerStaysTidy : Type 0
AnswerStaysTidy = (code : Code) → is_sound code ≡ true → (state : State) (action : Action) (resume : List ℤ → State) (answer : List ℤ) → AllTidy code state →
    step code state ≡ asks action resume →
    AllTidy code (resume answer) × ((depth : ℕ) → owed depth (resume answer) ≡ children_after action (λ d. owed d state) depth)

-- ---- where a strand halts

-- Silent instructions end, and what comes next stands behind them.
abbrev pub HaltsAtDue : Type 0
HaltsAtDue = (code : Code) → is_sound code ≡ true → (state : State) → step code (halt code state).state ≡ due code state

abbrev pub NothingSilentIsDue : Type 0
NothingSilentIsDue = (code : Code) → is_sound code ≡ true → (state after : State) → due code state ≢ goes after
