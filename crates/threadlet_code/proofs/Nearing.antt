-- Silent instructions come nearer to an action.
use Rattle.std.proofs.Common.{◌≡◌, ℕ, zero, suc, ◌+◌, ◌-◌, ◌<◌, ◌≤◌, ◌⊎◌, inl, inr, List, [], ◌∷◌, length, Option, Some, None, refl, sym, ap, ◌∙◌, subst, arith, Bool, true, false, ⊎_elim, ℤ, pos}
use Rattle.std.specs.Prelude.{slice_get, if◌then◌else◌, ◌==◌, option_and_then}
use Rattle.std.proofs.lemmas.Option.{slice_get_past}
use Rattle.std.proofs.lemmas.Bool.{cases_lt}
use Rattle.word_ops.specs.declared.place.Pos.{Pos}
use Rattle.word_ops.specs.Operators.{binary_of, same_word}
use Rattle.word_ops.specs.declared.ending.TrapKind.TheVariants as trap
use Rattle.world_model.specs.Action as act
use Rattle.world_model.specs.Action.{Action}
use Rattle.threadlet_code.specs.declared.instr.Instr.{Instr}
use Rattle.threadlet_code.specs.declared.instr.Instr.TheVariants as by
use Rattle.threadlet_code.specs.declared.code.FuncCode.{FuncCode}
use Rattle.threadlet_code.specs.declared.code.Code.{Code}
use Rattle.threadlet_code.specs.Naming.{body_length, jump_of, named}
use Rattle.threadlet_code.specs.Machine.{Frame, State, Next, goes, asks, stops, stuck, onward, push, entered, divided, called, returned, place_in, enters, meets, step}
use Rattle.threadlet_code.specs.Running.{room, settled, due}
use Rattle.world_model.specs.Activation.{word_at}
use Rattle.threadlet_code.specs.Laws.{HasTurns}
use Rattle.threadlet_code.proofs.Stepping.{IsAt, effect, by_instruction}

-- No silent instruction is next.
abbrev pub IsSettled : Next → Type 0
IsSettled (goes state) = ⊥
IsSettled (asks action resume) = Unit {0}
IsSettled (stops action) = Unit {0}
IsSettled stuck = Unit {0}

module _ (code : Code) where
  pub settled_stays : (n : ℕ) (next : Next) → IsSettled next → settled n code next ≡ next
  settled_stays zero next done = refl
  settled_stays (suc n) (goes state) done = absurd done
  settled_stays (suc n) (asks action resume) done = refl
  settled_stays (suc n) (stops action) done = refl
  settled_stays (suc n) stuck done = refl

  -- What is settled within a number of instructions is settled within more.
  pub settled_more : (n m : ℕ) (next : Next) → IsSettled (settled n code next) → n ≤ m → settled m code next ≡ settled n code next
  settled_more zero m next done le = settled_stays m next done
  settled_more (suc n) zero next done le = absurd (omega arith)
  settled_more (suc n) (suc m) (goes state) done le = settled_more n m (step code state) done (omega arith)
  settled_more (suc n) (suc m) (asks action resume) done le = refl
  settled_more (suc n) (suc m) (stops action) done le = refl
  settled_more (suc n) (suc m) stuck done le = refl

  pub room_above : (state : State) → 1 ≤ room code state
  room_above [] = omega arith
  room_above (frame ∷ frames) = omega arith

  -- A silent instruction leaves less room, or leads to an action at once.
  abbrev Nears : ℕ → Next → Type 0
  Nears r (goes state) = (room code state < r) ⊎ IsSettled (step code state)
  Nears r (asks action resume) = Unit {0}
  Nears r (stops action) = Unit {0}
  Nears r stuck = Unit {0}

  module _ (turns : HasTurns code) where
    -- A frame at a Turn.
    at_turn : (frame : Frame) (frames : State) (f : FuncCode) → slice_get code.functions frame.function ≡ Some f → slice_get f.body frame.at ≡ Some by.Turn →
        IsSettled (step code (frame ∷ frames))
    at_turn frame frames f known here =
        let e : step code (frame ∷ frames) ≡ meets code f frame frames (Some by.Turn) =
        ap (enters code frame frames) known ∙ ap (meets code f frame frames) here in
        subst IsSettled (sym e) tt

    module _ (frame : Frame) (frames : State) (f : FuncCode) (known : slice_get code.functions frame.function ≡ Some f) where
      room_of : (g : Frame) → g.function ≡ frame.function → room code (g ∷ frames) ≡ suc (length f.body - g.at + room code frames)
      room_of g same =
          ap (λ k. suc (body_length (slice_get code.functions k) - g.at + room code frames)) same
          ∙ ap (λ o. suc (body_length o - g.at + room code frames)) known

      inside : (instr : Instr) → slice_get f.body frame.at ≡ Some instr → frame.at < length f.body
      inside instr here =
          ⊎_elim (λ lt. lt) (λ le. absurd (let never : None ≡ Some instr = sym (slice_get_past f.body frame.at le) ∙ here in cc)) (cases_lt frame.at (length f.body))

      onward_nears : (instr : Instr) → slice_get f.body frame.at ≡ Some instr → (g : Frame) → g.function ≡ frame.function → g.at ≡ suc frame.at →
          Nears (room code (frame ∷ frames)) (goes (g ∷ frames))
      onward_nears instr here g same at = inl (omega (arith, inside instr here, room_of frame refl, room_of g same))

      jump_nears : (instr : Instr) → slice_get f.body frame.at ≡ Some instr → (to : ℕ) → jump_of instr ≡ Some to → (g : Frame) → g.function ≡ frame.function → g.at ≡ to →
          Nears (room code (frame ∷ frames)) (goes (g ∷ frames))
      jump_nears instr here to leads g same at =
          ⊎_elim
          (λ lt. inl (omega (arith, inside instr here, room_of frame refl, room_of g same)))
          (λ le. inr (at_turn g frames f (ap (slice_get code.functions) same ∙ known)
          (ap (slice_get f.body) at ∙ turns.loops frame.function f frame.at to known (named_here instr here leads) le)))
          (cases_lt frame.at to)
        where
          named_here : (instr : Instr) → slice_get f.body frame.at ≡ Some instr → jump_of instr ≡ Some to → named jump_of f frame.at ≡ Some to
          named_here instr here leads = ap (λ o. option_and_then jump_of o) here ∙ leads

      abbrev r : ℕ
      r = room code (frame ∷ frames)

      -- The frame with other operands taken.
      abbrev over : List ℤ → Frame
      over rest = record frame { stack = rest }

      divided_nears : (instr : Instr) → slice_get f.body frame.at ≡ Some instr → (at : Pos) (rest : List ℤ) (word : Option ℤ) →
          Nears r (divided at word (λ x. goes (onward (push x (over rest)) ∷ frames)))
      divided_nears instr here at rest None = tt
      divided_nears instr here at rest (Some word) = onward_nears instr here (onward (push word (over rest))) refl refl

      test_nears : (to : ℕ) → slice_get f.body frame.at ≡ Some (by.JumpZero to) → (rest : List ℤ) (zero : Bool) →
          Nears r (goes ((if zero then record (over rest) { at = to } else onward (over rest)) ∷ frames))
      test_nears to here rest true = jump_nears (by.JumpZero to) here to refl (record (over rest) { at = to }) refl refl
      test_nears to here rest false = onward_nears (by.JumpZero to) here (onward (over rest)) refl refl

      call_nears : (at : Pos) (g : ℕ) (h : Option FuncCode) → slice_get code.functions g ≡ h → (args : List ℤ) (frame' : Frame) → Nears r (called at g h args frame' frames)
      call_nears at g None is args frame' = tt
      call_nears at g (Some h) is args frame' = by_depth (suc (length frames) == 256)
        where
          by_depth : (deep : Bool) → Nears r (if deep then stops (act.Trap at trap.Depth) else goes (entered g h args ∷ onward frame' ∷ frames))
          by_depth true = tt
          by_depth false = inr (at_turn (entered g h args) (onward frame' ∷ frames) h is (turns.entry g h is))

      return_nears : (word : ℤ) (callers : State) → callers ≡ frames → Nears r (returned word callers)
      return_nears word [] e = tt
      return_nears word (caller ∷ callers) e = inl (let same : room code (caller ∷ callers) ≡ room code frames = ap (room code) e in omega (arith, room_of frame refl))

      nears : (instr : Instr) (words rest : List ℤ) → IsAt code frame f instr words rest → Nears r (effect code frame frames f instr words rest)
      nears (by.Push w) words rest a = onward_nears _ a.here _ refl refl
      nears (by.Get i) words rest a = onward_nears _ a.here _ refl refl
      nears (by.Set i) words rest a = onward_nears _ a.here _ refl refl
      nears by.Pop words rest a = onward_nears _ a.here _ refl refl
      nears by.Dup words rest a = onward_nears _ a.here _ refl refl
      nears (by.Un op) words rest a = onward_nears _ a.here _ refl refl
      nears (by.Bin op) words rest a = divided_nears (by.Bin op) a.here (place_in f frame.at) rest (binary_of op (word_at words 0) (word_at words 1))
      nears (by.Jump to) words rest a = jump_nears _ a.here to refl _ refl refl
      nears (by.JumpZero to) words rest a = test_nears to a.here rest (same_word (word_at words 0) (pos 0))
      nears (by.Call g) words rest a = call_nears _ g (slice_get code.functions g) refl words _
      nears by.Return words rest a = return_nears _ frames refl
      nears by.Turn words rest a = tt
      nears by.Load words rest a = tt
      nears (by.Post op) words rest a = tt
      nears by.FetchAdd words rest a = tt
      nears by.FetchSwap words rest a = tt
      nears by.FetchCas words rest a = tt
      nears by.Init words rest a = tt
      nears by.Fence words rest a = tt
      nears by.Move words rest a = tt
      nears by.Where words rest a = tt
      nears (by.Print i) words rest a = tt
      nears (by.Alloc kind) words rest a = tt
      nears (by.Spawn g target hinted) words rest a = tt
      nears by.Sync words rest a = tt

    step_nears : (state : State) → Nears (room code state) (step code state)
    step_nears [] = tt
    step_nears (frame ∷ frames) =
        by_instruction code frame frames (Nears (room code (frame ∷ frames))) tt (λ f instr words rest a. nears frame frames f a.known instr words rest a)

    -- Silent instructions end within the room.
    ends_within : (n : ℕ) (state : State) → room code state ≤ suc n → (next : Next) → step code state ≡ next → Nears (room code state) next → IsSettled (settled n code next)
    ends_within zero [] le next e near = subst IsSettled e tt
    ends_within zero (frame ∷ frames) le next e near = absurd (omega (arith, room_above frames))
    ends_within (suc n) state le (asks action resume) e near = tt
    ends_within (suc n) state le (stops action) e near = tt
    ends_within (suc n) state le stuck e near = tt
    ends_within (suc n) state le (goes after) e near =
        ⊎_elim
        (λ lt. ends_within n after (omega arith) (step code after) refl (step_nears after))
        (λ done. subst IsSettled (sym (settled_stays n (step code after) done)) done)
        near

    -- More room than that makes no difference.
    enough : (state : State) (m : ℕ) → room code state ≤ m → settled m code (goes state) ≡ due code state
    enough state m le = by_room (room code state) refl
      where
        by_room : (k : ℕ) → room code state ≡ k → settled m code (goes state) ≡ settled k code (goes state)
        by_room zero e = absurd (omega (arith, room_above state))
        by_room (suc k) e = settled_more (suc k) m (goes state) (ends_within k state (omega arith) (step code state) refl (step_nears state)) (omega arith)

    -- Silent instructions end.
    pub due_settled : (state : State) → IsSettled (due code state)
    due_settled state = by_room (room code state) refl
      where
        by_room : (k : ℕ) → room code state ≡ k → IsSettled (settled k code (goes state))
        by_room zero e = absurd (omega (arith, room_above state))
        by_room (suc k) e = ends_within k state (omega arith) (step code state) refl (step_nears state)

    -- A silent instruction leaves the first that is not.
    pub due_step : (state after : State) → step code state ≡ goes after → due code state ≡ due code after
    due_step [] after e = absurd (let wrong : stuck ≡ goes after = e in cc)
    due_step (frame ∷ frames) after e =
        let r = body_length (slice_get code.functions frame.function) - frame.at + room code frames in
        let first : due code (frame ∷ frames) ≡ settled r code (goes after) = ap (settled r code) e in
        let near : Nears (room code (frame ∷ frames)) (goes after) = subst (Nears (room code (frame ∷ frames))) e (step_nears (frame ∷ frames)) in
        first
        ∙ ⊎_elim
        (λ lt. enough after r (omega arith))
        (λ done. at_once r (room code after) (omega (arith, room_above frames)) (room_above after) done)
        near
      where
        at_once : (a b : ℕ) → 1 ≤ a → 1 ≤ b → IsSettled (step code after) → settled a code (goes after) ≡ settled b code (goes after)
        at_once zero b p q done = absurd (omega arith)
        at_once (suc a) zero p q done = absurd (omega arith)
        at_once (suc a) (suc b) p q done = settled_stays a (step code after) done ∙ sym (settled_stays b (step code after) done)

  -- An instruction that is not silent is the first itself.
  pub due_now : (state : State) → IsSettled (step code state) → due code state ≡ step code state
  due_now [] done = refl
  due_now (frame ∷ frames) done = settled_stays (body_length (slice_get code.functions frame.function) - frame.at + room code frames) (step code (frame ∷ frames)) done
