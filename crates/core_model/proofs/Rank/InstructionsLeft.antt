-- How many instructions are left before the next Turn: each instruction takes one at least, and a Turn sets it anew.
use Rattle.std.proofs.Common.{◌≡◌, ℕ, zero, suc, ◌+◌, ◌-◌, ◌<◌, ◌≤◌, List, [], ◌∷◌, length, Option, Some, None, refl, sym, ap, ◌∙◌, subst, arith, Bool, true, false, ⊎_elim, ℤ, pos}
use Rattle.std.specs.Prelude.{slice_get, slice_set, if◌then◌else◌, ◌==◌, option_and_then}
use Rattle.std.proofs.lemmas.Bool.{cases_lt}
use Rattle.std.proofs.lemmas.Option.{slice_get_within}
use Rattle.word_ops.specs.declared.place.Pos.{Pos}
use Rattle.word_ops.specs.Operators.{binary_of, unary_of, same_word}
use Rattle.word_ops.specs.declared.ending.TrapKind.TheVariants as trap
use Rattle.world_model.specs.Action.{Action, Turn, Trap}
use Rattle.world_model.specs.Activation.{word_at}
use Rattle.threadlet_code.specs.declared.instr.Instr.{Instr}
use Rattle.threadlet_code.specs.declared.instr.Instr.TheVariants as by
use Rattle.threadlet_code.specs.declared.code.FuncCode.{FuncCode}
use Rattle.threadlet_code.specs.declared.code.Code.{Code}
use Rattle.threadlet_code.specs.Naming.{is_turn, jump_of}
use Rattle.threadlet_code.specs.Machine.{Frame, State, Next, goes, asks, stops, stuck, onward, push, entered, answered, divided, called, returned, place_in, spawn_of, step}
use Rattle.threadlet_code.specs.Breaches.{is_sound}
use Rattle.threadlet_code.specs.Running.{started, room, halts, halt}
use Rattle.threadlet_code.specs.Laws.{HasTurns}
use Rattle.threadlet_code.proofs.Stepping.{IsAt, effect, by_instruction}
use Rattle.threadlet_code.proofs.Kept.{has_turns}
use Rattle.threadlet_code.proofs.Nearing.{IsSettled, due_settled}
use Rattle.core_model.specs.Rank.{left_from, left_in, longest}
use Rattle.core_model.proofs.Invariant.StrandStates.{halted_step}

-- ---- what is left of an activation

-- a body is no longer than the longest
pub within_longest : (fs : List FuncCode) (g : ℕ) (f : FuncCode) → slice_get fs g ≡ Some f → length f.body ≤ longest fs
within_longest [] g f e = absurd cc
within_longest (h ∷ fs) zero f e = let same : h ≡ f = cc in let z : length h.body ≡ length f.body = ap (λ (y : FuncCode). length y.body) same in omega arith
within_longest (h ∷ fs) (suc g) f e = let ih = within_longest fs g f e in omega arith

-- at most what is behind the place, and it
left_most : (f : FuncCode) (place : ℕ) → left_from place (Some f) ≤ suc (length f.body - place)
left_most f place = go (is_turn (slice_get f.body place))
  where
    go : (t : Bool) → (if t then 0 else suc (length f.body - place)) ≤ suc (length f.body - place)
    go true = omega arith
    go false = omega arith

left_at_turn : (f : FuncCode) (place : ℕ) → slice_get f.body place ≡ Some by.Turn → left_from place (Some f) ≡ 0
left_at_turn f place e = ap (λ o. if is_turn o then 0 else suc (length f.body - place)) e

-- ---- what an instruction leaves

-- an answer leads on with less, and that of a Turn with no more than a body besides
abbrev pub LeavesAnswered : Code → ℕ → Action → (List ℤ → State) → Type 0
LeavesAnswered code l Turn resume = (answer : List ℤ) → left_in code (resume answer) ≤ l + longest code.functions
LeavesAnswered code l _ resume = (answer : List ℤ) → left_in code (resume answer) < l

-- a silent instruction leaves less, and something is left before a last action
abbrev pub Leaves : Code → ℕ → Next → Type 0
Leaves code l (goes after) = left_in code after < l
Leaves code l (asks action resume) = LeavesAnswered code l action resume
Leaves code l (stops action) = 1 ≤ l
Leaves code l stuck = Unit {0}

module _ (code : Code) (turns : HasTurns code) (frame : Frame) (frames : State) (f : FuncCode) (known : slice_get code.functions frame.function ≡ Some f) where
  abbrev l : ℕ
  l = left_in code (frame ∷ frames)

  -- what is left where a frame of the same function is the deepest
  left_of : (g : Frame) → g.function ≡ frame.function → left_in code (g ∷ frames) ≡ left_from g.at (Some f) + left_in code frames
  left_of g same = ap (λ k. left_from g.at (slice_get code.functions k) + left_in code frames) same ∙ ap (λ o. left_from g.at o + left_in code frames) known

  -- an instruction that is no Turn is among what is left
  left_now : (instr : Instr) → slice_get f.body frame.at ≡ Some instr → is_turn (Some instr) ≡ false → l ≡ suc (length f.body - frame.at) + left_in code frames
  left_now instr here plain = left_of frame refl ∙ ap (λ t. (if t then 0 else suc (length f.body - frame.at)) + left_in code frames) (ap is_turn here ∙ plain)

  onward_leaves : (instr : Instr) → slice_get f.body frame.at ≡ Some instr → is_turn (Some instr) ≡ false → (g : Frame) → g.function ≡ frame.function → g.at ≡ suc frame.at → left_in code (g ∷ frames) < l
  onward_leaves instr here plain g same at =
      let inside = slice_get_within f.body frame.at instr here in
      let most = left_most f g.at in
      let now = left_now instr here plain in
      let behind = left_of g same in omega arith

  -- a Turn leaves at most the rest of its body
  turn_leaves : slice_get f.body frame.at ≡ Some by.Turn → (g : Frame) → g.function ≡ frame.function → g.at ≡ suc frame.at → left_in code (g ∷ frames) ≤ l + longest code.functions
  turn_leaves here g same at =
      let inside = slice_get_within f.body frame.at by.Turn here in
      let most = left_most f g.at in
      let all = within_longest code.functions frame.function f known in
      let now = left_of frame refl in
      let behind = left_of g same in omega arith

  jump_leaves : (instr : Instr) → slice_get f.body frame.at ≡ Some instr → is_turn (Some instr) ≡ false → (to : ℕ) → jump_of instr ≡ Some to → (g : Frame) → g.function ≡ frame.function → g.at ≡ to →
      left_in code (g ∷ frames) < l
  jump_leaves instr here plain to leads g same at =
      let now = left_now instr here plain in
      let behind : left_in code (g ∷ frames) ≡ left_from to (Some f) + left_in code frames = left_of g same ∙ ap (λ p. left_from p (Some f) + left_in code frames) at in
      ⊎_elim
      (λ lt. let inside = slice_get_within f.body frame.at instr here in let most = left_most f to in omega arith)
      (λ le. let none = left_at_turn f to (turns.loops frame.function f frame.at to known (ap (λ o. option_and_then jump_of o) here ∙ leads) le) in omega arith)
      (cases_lt frame.at to)

  -- the frame with other operands taken
  abbrev over : List ℤ → Frame
  over rest = record frame { stack = rest }

  divided_leaves : (instr : Instr) → slice_get f.body frame.at ≡ Some instr → is_turn (Some instr) ≡ false → (at : Pos) (rest : List ℤ) (word : Option ℤ) →
      Leaves code l (divided at word (λ x. goes (onward (push x (over rest)) ∷ frames)))
  divided_leaves instr here plain at rest None = let now = left_now instr here plain in omega arith
  divided_leaves instr here plain at rest (Some word) = onward_leaves instr here plain (onward (push word (over rest))) refl refl

  test_leaves : (to : ℕ) → slice_get f.body frame.at ≡ Some (by.JumpZero to) → (rest : List ℤ) (zero : Bool) →
      Leaves code l (goes ((if zero then record (over rest) { at = to } else onward (over rest)) ∷ frames))
  test_leaves to here rest true = jump_leaves (by.JumpZero to) here refl to refl (record (over rest) { at = to }) refl refl
  test_leaves to here rest false = onward_leaves (by.JumpZero to) here refl (onward (over rest)) refl refl

  -- a function that is called is at a Turn
  call_leaves : (at : Pos) (g : ℕ) (here : slice_get f.body frame.at ≡ Some (by.Call g)) (h : Option FuncCode) → slice_get code.functions g ≡ h → (args rest : List ℤ) →
      Leaves code l (called at g h args (over rest) frames)
  call_leaves at g here None is args rest = tt
  call_leaves at g here (Some h) is args rest = by_depth (suc (length frames) == 256)
    where
      by_depth : (deep : Bool) → Leaves code l (if deep then stops (Trap at trap.Depth) else goes (entered g h args ∷ onward (over rest) ∷ frames))
      by_depth true = let now = left_now (by.Call g) here refl in omega arith
      by_depth false =
          let none : left_from 0 (slice_get code.functions g) ≡ 0 = ap (left_from 0) is ∙ left_at_turn h 0 (turns.entry g h is) in
          let less = onward_leaves (by.Call g) here refl (onward (over rest)) refl refl in omega arith

  return_leaves : slice_get f.body frame.at ≡ Some by.Return → (word : ℤ) (callers : State) → callers ≡ frames → Leaves code l (returned word callers)
  return_leaves here word [] e = let now = left_now by.Return here refl in omega arith
  return_leaves here word (caller ∷ callers) e =
      let now = left_now by.Return here refl in
      let same : left_in code (caller ∷ callers) ≡ left_in code frames = ap (left_in code) e in omega arith

  spawn_leaves : (at : Pos) (depth g : ℕ) (hinted : Bool) (words : List ℤ) (resume : List ℤ → State) → ((answer : List ℤ) → left_in code (resume answer) < l) →
      LeavesAnswered code l (spawn_of at depth g hinted words) resume
  spawn_leaves at depth g true words resume less = less
  spawn_leaves at depth g false words resume less = less

  -- an answered instruction goes on behind itself
  answered_leaves : (instr : Instr) → slice_get f.body frame.at ≡ Some instr → is_turn (Some instr) ≡ false → (rest answer : List ℤ) →
      (answered instr answer (over rest)).function ≡ frame.function → (answered instr answer (over rest)).at ≡ frame.at → left_in code (onward (answered instr answer (over rest)) ∷ frames) < l
  answered_leaves instr here plain rest answer same at = onward_leaves instr here plain (onward (answered instr answer (over rest))) same (ap suc at)

  each_leaves : (instr : Instr) (words rest : List ℤ) → IsAt code frame f instr words rest → Leaves code l (effect code frame frames f instr words rest)
  each_leaves (by.Push w) words rest a = onward_leaves (by.Push w) a.here refl (onward (push w (over rest))) refl refl
  each_leaves (by.Get i) words rest a = onward_leaves (by.Get i) a.here refl (onward (push (word_at frame.slots i) (over rest))) refl refl
  each_leaves (by.Set i) words rest a = onward_leaves (by.Set i) a.here refl (onward (record (over rest) { slots = slice_set frame.slots i (word_at words 0) })) refl refl
  each_leaves by.Pop words rest a = onward_leaves by.Pop a.here refl (onward (over rest)) refl refl
  each_leaves by.Dup words rest a = onward_leaves by.Dup a.here refl (onward (push (word_at words 0) (push (word_at words 0) (over rest)))) refl refl
  each_leaves (by.Un op) words rest a = onward_leaves (by.Un op) a.here refl (onward (push (unary_of op (word_at words 0)) (over rest))) refl refl
  each_leaves (by.Bin op) words rest a = divided_leaves (by.Bin op) a.here refl (place_in f frame.at) rest (binary_of op (word_at words 0) (word_at words 1))
  each_leaves (by.Jump to) words rest a = jump_leaves (by.Jump to) a.here refl to refl (record (over rest) { at = to }) refl refl
  each_leaves (by.JumpZero to) words rest a = test_leaves to a.here rest (same_word (word_at words 0) (pos 0))
  each_leaves (by.Call g) words rest a = call_leaves _ g a.here (slice_get code.functions g) refl words rest
  each_leaves by.Return words rest a = return_leaves a.here _ frames refl
  each_leaves by.Turn words rest a = λ answer. turn_leaves a.here (onward (over rest)) refl refl
  each_leaves by.Load words rest a = λ answer. answered_leaves by.Load a.here refl rest answer refl refl
  each_leaves (by.Post op) words rest a = λ answer. answered_leaves (by.Post op) a.here refl rest answer refl refl
  each_leaves by.FetchAdd words rest a = λ answer. answered_leaves by.FetchAdd a.here refl rest answer refl refl
  each_leaves by.FetchSwap words rest a = λ answer. answered_leaves by.FetchSwap a.here refl rest answer refl refl
  each_leaves by.FetchCas words rest a = λ answer. answered_leaves by.FetchCas a.here refl rest answer refl refl
  each_leaves by.Init words rest a = λ answer. answered_leaves by.Init a.here refl rest answer refl refl
  each_leaves by.Fence words rest a = λ answer. answered_leaves by.Fence a.here refl rest answer refl refl
  each_leaves by.Move words rest a = λ answer. answered_leaves by.Move a.here refl rest answer refl refl
  each_leaves by.Where words rest a = λ answer. answered_leaves by.Where a.here refl rest answer refl refl
  each_leaves (by.Print i) words rest a = λ answer. answered_leaves (by.Print i) a.here refl rest answer refl refl
  each_leaves (by.Alloc kind) words rest a = λ answer. answered_leaves (by.Alloc kind) a.here refl rest answer refl refl
  each_leaves (by.Spawn g target hinted) words rest a = spawn_leaves _ _ g hinted words _ (λ answer. answered_leaves (by.Spawn g target hinted) a.here refl rest answer refl refl)
  each_leaves by.Sync words rest a = λ answer. answered_leaves by.Sync a.here refl rest answer refl refl

pub step_leaves : (code : Code) → HasTurns code → (state : State) → Leaves code (left_in code state) (step code state)
step_leaves code turns [] = tt
step_leaves code turns (frame ∷ frames) =
    by_instruction code frame frames (Leaves code (left_in code (frame ∷ frames))) tt (λ f instr words rest a. each_leaves code turns frame frames f a.known instr words rest a)

-- ---- where a strand halts

module _ (code : Code) (sound : is_sound code ≡ true) where
  -- each silent instruction has taken one at least
  halts_left : (n done : ℕ) (state : State) (next : Next) → step code state ≡ next → (halts n code done state next).silent + left_in code (halts n code done state next).state ≤ done + left_in code state
  halts_left zero done state next e = omega arith
  halts_left (suc n) done state (goes after) e =
      let ih = halts_left n (suc done) after (step code after) refl in
      let less : left_in code after < left_in code state = subst (Leaves code (left_in code state)) e (step_leaves code (has_turns code sound) state) in omega arith
  halts_left (suc n) done state (asks action resume) e = omega arith
  halts_left (suc n) done state (stops action) e = omega arith
  halts_left (suc n) done state stuck e = omega arith

  pub halted_left : (state : State) → (halt code state).silent + left_in code (halt code state).state ≤ left_in code state
  halted_left state = let all = halts_left (room code state) 0 state (step code state) refl in omega arith

  -- it halts there again
  halts_settled : (n : ℕ) (state : State) (next : Next) → IsSettled next → (halts n code 0 state next).state ≡ state
  halts_settled zero state next done = refl
  halts_settled (suc n) state (goes after) done = absurd done
  halts_settled (suc n) state (asks action resume) done = refl
  halts_settled (suc n) state (stops action) done = refl
  halts_settled (suc n) state stuck done = refl

  pub halted_again : (state : State) → (halt code (halt code state).state).state ≡ (halt code state).state
  halted_again state = halts_settled (room code (halt code state).state) (halt code state).state (step code (halt code state).state)
      (subst IsSettled (sym (halted_step code sound state)) (due_settled code (has_turns code sound) state))

-- a strand that has just begun is before a Turn
pub begun_left : (code : Code) → is_sound code ≡ true → (g : ℕ) (args : List ℤ) → left_in code (started g (slice_get code.functions g) args) ≡ 0
begun_left code sound g args = by (slice_get code.functions g) refl
  where
    by : (o : Option FuncCode) → slice_get code.functions g ≡ o → left_in code (started g o args) ≡ 0
    by None e = refl
    by (Some f) e = let none : left_from 0 (slice_get code.functions g) ≡ 0 = ap (left_from 0) e ∙ left_at_turn f 0 ((has_turns code sound).entry g f e) in omega arith
