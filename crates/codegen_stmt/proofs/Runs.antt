-- The code of a statement does what the statement does.
use Rattle.std.proofs.Common.{◌≡◌, ℕ, zero, suc, ◌<◌, ◌≤◌, List, [], ◌∷◌, ◌++◌, length, Some, refl, ap, ◌∙◌, arith, ℤ, pos, Bool, true, false}
use Rattle.std.specs.Prelude.{slice_get, if◌then◌else◌, not}
use Rattle.word_ops.specs.Operators.{same_word}
use Rattle.world_model.specs.Action as act
use Rattle.world_model.specs.Action.{Action, Answers}
use Rattle.world_model.specs.Meaning.{Acts, make}
use Rattle.world_model.specs.Activation.{Slots, Targets, joined}
use Rattle.cilk_model.specs.Value.{is_true}
use Rattle.cilk_model.specs.Statement.{Flow, syncs, repeats}
use Rattle.threadlet_code.specs.declared.instr.Instr.TheVariants as by
use Rattle.threadlet_code.specs.declared.code.FuncCode.{FuncCode}
use Rattle.threadlet_code.specs.declared.code.Code.{Code}
use Rattle.threadlet_code.specs.Machine.{State}
use Rattle.codegen_expr.specs.Piece.{placeless}
use Rattle.codegen_expr.specs.Stands.{LineAt}
use Rattle.codegen_expr.proofs.Steps.{Laws, Seat, state_of, make_same, silent, acting}
use Rattle.codegen_expr.proofs.Choices.{tests_zero, tests_other}
use Rattle.codegen_stmt.specs.Stretch.{Exits, Stretch}
use Rattle.codegen_stmt.proofs.KeptSlots.{AreTargets, joined_front, joined_length}

-- Fewer answers behind an action.
pub make_less : (a : Action) (f g : List ℤ → Acts) (A : Answers) → ((r : List ℤ) (B : Answers) → suc (length B) ≤ length A → f r B ≡ g r B) → make a f A ≡ make a g A
make_less a f g [] e = refl
make_less a f g (r ∷ B) e = ap (λ l. a ∷ l) (e r B (omega arith))

-- A stretch has as many lines as it says.
abbrev pub IsLong : Stretch → Type 0
IsLong stretch = (exits : Exits) (place first : ℕ) → length (stretch.lines exits place first) ≡ stretch.size

-- An activation of a function of a code: how many slots the source's has, and how many words it keeps besides.
pub record Activation (code : Code) : Type 0 where
  pub function : ℕ
  pub f : FuncCode
  pub known : slice_get code.functions function ≡ Some f
  pub frames : State
  pub slots : ℕ
  pub kept : ℕ

module _ {code : Code} (a : Activation code) (laws : Laws code) where
  abbrev pub seat : Slots → Targets → Seat code
  seat s ts = record { function = a.function; f = a.f; known = a.known; slots = s; targets = ts; frames = a.frames }

  abbrev pub state : ℕ → Slots → List ℤ → Targets → State
  state place s stack ts = state_of (seat s ts) place stack

  -- The words that an activation has between two statements.
  pub record IsBetween (s x : Slots) (ts : Targets) : Type 0 where
    pub slots : length s ≡ a.slots
    pub kept : length x ≡ a.kept
    pub targets : AreTargets a.slots ts

  -- From this place on, for at most m answers, the flow is followed.
  abbrev pub Follows : ℕ → ℕ → Flow → Type 0
  Follows m place next = (s x : Slots) (ts : Targets) → IsBetween s x ts → (B : Answers) → length B ≤ m → laws.from (state place (s ++ x) [] ts) B ≡ next s ts B

  pub follows_less : (m m' place : ℕ) (next : Flow) → m' ≤ m → Follows m place next → Follows m' place next
  follows_less m m' place next le h s x ts w B le' = h s x ts w B (omega arith)

  pub follows_at : (m p q : ℕ) (next : Flow) → p ≡ q → Follows m q next → Follows m p next
  follows_at m p q next e h s x ts w B le = ap (λ k. laws.from (state k (s ++ x) [] ts) B) e ∙ h s x ts w B le

  -- A jump.
  pub jump_follows : (m place to : ℕ) (next : Flow) → LineAt a.f place (placeless (by.Jump to)) → Follows m to next → Follows m place next
  jump_follows m place to next has h s x ts w B le =
      silent (seat (s ++ x) ts) laws (placeless (by.Jump to)) place [] [] 0 has refl refl (state to (s ++ x) [] ts) refl B ∙ h s x ts w B le

  -- A test.
  pub test_follows : (m place to : ℕ) (no_ yes_ : Flow) → LineAt a.f place (placeless (by.JumpZero to)) → Follows m to no_ → Follows m (suc place) yes_ →
      (s x : Slots) (ts : Targets) → IsBetween s x ts → (v : ℤ) (b : Bool) → same_word v (pos 0) ≡ b → (B : Answers) → length B ≤ m →
      laws.from (state place (s ++ x) (v ∷ []) ts) B ≡ (if not b then yes_ s ts else no_ s ts) B
  test_follows m place to no_ yes_ has hn hy s x ts w v true is B le =
      tests_zero (seat (s ++ x) ts) laws (record { line = 0; column = 0 }) to place [] v has is B ∙ hn s x ts w B le
  test_follows m place to no_ yes_ has hn hy s x ts w v false is B le =
      tests_other (seat (s ++ x) ts) laws (record { line = 0; column = 0 }) to place [] v has is B ∙ hy s x ts w B le

  -- A Sync.
  pub sync_follows : (m place : ℕ) (next : Flow) → LineAt a.f place (placeless by.Sync) → Follows m (suc place) next → Follows m place (syncs (suc (length a.frames)) next)
  sync_follows m place next has h s x ts w B le =
      let go = act.Sync (suc (length a.frames)) in
      acting (seat (s ++ x) ts) laws (placeless by.Sync) place [] [] 0 has refl refl go (λ rs. state (suc place) (joined (s ++ x) ts rs) [] []) refl B
      ∙ make_same m go (λ rs. laws.from (state (suc place) (joined (s ++ x) ts rs) [] [])) (λ rs. next (joined s ts rs) [])
      (λ rs C le_c. ap (λ l. laws.from (state (suc place) l [] []) C) (joined_front a.slots s x ts rs w.slots w.targets)
      ∙ h (joined s ts rs) x [] (record { slots = joined_length a.slots s ts rs w.slots; kept = w.kept; targets = tt }) C le_c) B le

  -- A loop: from its Turn on.
  module _ (test : Slots → (ℤ → Acts) → Acts) (body step_ : Flow → Flow) (next : Flow) (place top : ℕ) (turn : LineAt a.f place (placeless by.Turn))
      (round : (m : ℕ) → m ≤ top → (again : Flow) → Follows m place again → (s x : Slots) (ts : Targets) → IsBetween s x ts → (B : Answers) → length B ≤ m →
      laws.from (state (suc place) (s ++ x) [] ts) B ≡ test s (λ v. if is_true v then body (step_ again) s ts else next s ts) B) where
    pub head_follows : (fuel m : ℕ) → m ≤ top → m < fuel → Follows m place (repeats test body step_ next fuel)
    head_follows zero m le lt s x ts w B le_b = absurd (omega arith)
    head_follows (suc fuel) m le lt s x ts w B le_b =
        acting (seat (s ++ x) ts) laws (placeless by.Turn) place [] [] 0 turn refl refl act.Turn (λ r. state (suc place) (s ++ x) [] ts) refl B
        ∙ make_less act.Turn (λ r. laws.from (state (suc place) (s ++ x) [] ts)) (λ r. test s (λ v. if is_true v then body (step_ (repeats test body step_ next fuel)) s ts else next s ts)) B
        (λ r C lt_c. round (length C) (omega arith) (repeats test body step_ next fuel) (head_follows fuel (length C) (omega arith) (omega arith)) s x ts w C (omega arith))
