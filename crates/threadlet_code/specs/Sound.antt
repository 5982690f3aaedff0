-- What the rules come to, said of a whole function.
use Rattle.std.specs.Prelude.{None, ◌≡◌, ◌≢◌, ◌≤◌, ◌<◌, ℕ, suc, true, false, List, [], ◌∷◌, length, Some, slice_get}
use Rattle.threadlet_code.specs.declared.instr.Instr.{Instr}
use Rattle.threadlet_code.specs.declared.instr.Instr.TheVariants.{Turn}
use Rattle.threadlet_code.specs.declared.code.FuncCode.{FuncCode}
use Rattle.threadlet_code.specs.declared.code.Code.{Code}
use Rattle.threadlet_code.specs.Operands.{operands, results}
use Rattle.threadlet_code.specs.Naming.{slot_named, function_named, format_named, jump_of, named, is_return, is_spawn, is_last, successors}
use Rattle.threadlet_code.specs.Rules.{can_start, follows_sync, is_jumped_to}
use Rattle.threadlet_code.specs.Ways.{has_operands, exchanged, heights, ways_to, known_at}
use Rattle.threadlet_code.specs.Breaches.{is_sound, first_breach}

-- A fact of each number in a list.
abbrev pub OfEach : (ℕ → Type 0) → List ℕ → Type 0
OfEach P [] = Unit {0}
OfEach P (n ∷ ns) = P n × OfEach P ns

-- What the rules without ways say of a function.
pub record KeepsRules (code : Code) (f : FuncCode) : Type 0 where
  pub entry : slice_get f.body 0 ≡ Some Turn
  pub positions : length f.places ≡ length f.body
  pub params : f.params ≤ f.slots
  pub slots : (place slot : ℕ) → named slot_named f place ≡ Some slot → slot < f.slots
  pub functions : (place g : ℕ) → named function_named f place ≡ Some g → g < length code.functions
  pub formats : (place i : ℕ) → named format_named f place ≡ Some i → i < length code.formats
  pub targets : (place to : ℕ) → named jump_of f place ≡ Some to → to < length f.body
  pub loops : (place to : ℕ) → named jump_of f place ≡ Some to → to ≤ place → slice_get f.body to ≡ Some Turn
  pub end : (place : ℕ) → suc place ≡ length f.body → is_last (slice_get f.body place) ≡ true
  pub spawns : (place : ℕ) → is_spawn (slice_get f.body place) ≡ true → f.spawns ≡ true
  pub synced : (place : ℕ) → f.spawns ≡ true → is_return (slice_get f.body place) ≡ true → follows_sync f place ≡ true
  pub unjumped : (place : ℕ) → f.spawns ≡ true → is_return (slice_get f.body place) ≡ true → is_jumped_to f place ≡ false

-- Heights that fit a body: 0 at its start, and at each instruction enough for its operands, no more than the
-- function says, and what the instruction leaves at each place behind it.
pub record AreHeights (code : Code) (f : FuncCode) (height : ℕ → ℕ) : Type 0 where
  pub start : height 0 ≡ 0
  pub enough : (place : ℕ) (instr : Instr) → slice_get f.body place ≡ Some instr → has_operands (height place) (operands code instr) ≡ true
  pub low : (place : ℕ) (instr : Instr) → slice_get f.body place ≡ Some instr → height place ≤ f.height
  pub behind : (place : ℕ) (instr : Instr) → slice_get f.body place ≡ Some instr →
      OfEach (λ to. height to ≡ exchanged (height place) (operands code instr) (results instr)) (successors place instr)

-- A function with heights that fit it keeps all rules.
pub record IsWell (code : Code) (f : FuncCode) : Type 0 where
  pub keeps : KeepsRules code f
  pub height : ℕ → ℕ
  pub heights : AreHeights code f height

-- So does a code whose functions all do, with a main that can start.
pub record AreWell (code : Code) : Type 0 where
  pub main : can_start (slice_get code.functions code.main) ≡ true
  pub functions : (g : ℕ) (f : FuncCode) → slice_get code.functions g ≡ Some f → IsWell code f

-- The heights of a function of a verified code: 0 at its start, and wherever a way leads an instruction that has
-- its operands, no higher than the function says, with what it leaves at each place behind it.
pub record HeightsLead (code : Code) (g : ℕ) (f : FuncCode) : Type 0 where
  pub start : known_at (heights code g f) 0 ≡ Some 0
  pub inside : (place h : ℕ) → known_at (heights code g f) place ≡ Some h → place < length f.body
  pub low : (place h : ℕ) → known_at (heights code g f) place ≡ Some h → h ≤ f.height
  pub enough : (place h : ℕ) (instr : Instr) → known_at (heights code g f) place ≡ Some h → slice_get f.body place ≡ Some instr → has_operands h (operands code instr) ≡ true
  pub behind : (place h : ℕ) (instr : Instr) → known_at (heights code g f) place ≡ Some h → slice_get f.body place ≡ Some instr →
      OfEach (λ to. known_at (heights code g f) to ≡ Some (exchanged h (operands code instr) (results instr))) (successors place instr)

-- ---- what holds of verified code

abbrev pub RulesAreKept : Type 0
RulesAreKept = (code : Code) → is_sound code ≡ true →
    (can_start (slice_get code.functions code.main) ≡ true) × ((g : ℕ) (f : FuncCode) → slice_get code.functions g ≡ Some f → KeepsRules code f)

abbrev pub VerifiedHeightsLead : Type 0
VerifiedHeightsLead = (code : Code) → is_sound code ≡ true → (g : ℕ) (f : FuncCode) → slice_get code.functions g ≡ Some f → HeightsLead code g f

-- A place without a height has no way, and one with a height has some, all of which have that height.
abbrev pub HeightsAreOfWays : Type 0
HeightsAreOfWays = (code : Code) → is_sound code ≡ true → (g : ℕ) (f : FuncCode) → slice_get code.functions g ≡ Some f → (place : ℕ) → place < length f.body →
    (known_at (heights code g f) place ≡ None → ways_to code g f place ≡ []) ×
    ((h : ℕ) → known_at (heights code g f) place ≡ Some h → OfEach (λ way. way ≡ h) (ways_to code g f place) × (ways_to code g f place ≢ []))

-- A code whose functions all have heights that fit breaks no rule.
abbrev pub WellCodeIsSound : Type 0
WellCodeIsSound = (code : Code) → AreWell code → (first_breach code ≡ None) × (is_sound code ≡ true)
