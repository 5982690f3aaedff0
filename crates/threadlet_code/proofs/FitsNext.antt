-- What follows a state that fits.
use Rattle.std.proofs.Common.{◌≡◌, ℕ, zero, suc, ◌+◌, ◌-◌, ◌<◌, ◌≤◌, ◌⊎◌, inl, inr, List, [], ◌∷◌, length, Option, Some, None, refl, sym, ap, ◌∙◌, subst, arith, Bool, true, false, ℤ, pos, length-set}
use Rattle.std.specs.Prelude.{slice_get, if◌then◌else◌, ◌==◌, option_map, option_and_then}
use Rattle.std.proofs.lemmas.Bool.Decides.{eqb_tells}
use Rattle.std.proofs.lemmas.Option.{same_Some}
use Rattle.word_ops.specs.declared.place.Pos.{Pos}
use Rattle.word_ops.specs.declared.ending.TrapKind.TheVariants as trap
use Rattle.word_ops.specs.Operators.{binary_of, same_word}
use Rattle.world_model.specs.Action as act
use Rattle.world_model.specs.Action.{Action}
use Rattle.threadlet_code.specs.declared.instr.Instr.{Instr}
use Rattle.threadlet_code.specs.declared.instr.Instr.TheVariants as by
use Rattle.threadlet_code.specs.declared.code.FuncCode.{FuncCode}
use Rattle.threadlet_code.specs.declared.code.Code.{Code}
use Rattle.world_model.specs.Activation.{word_at}
use Rattle.threadlet_code.specs.Operands.{operands, results}
use Rattle.threadlet_code.specs.Naming.{slot_named, successors}
use Rattle.threadlet_code.specs.Machine.{Frame, State, Next, goes, asks, stops, stuck, onward, push, entered, divided, called, returned, place_in, step}
use Rattle.threadlet_code.specs.Ways.{has_operands, exchanged, heights, known_at}
use Rattle.threadlet_code.specs.Breaches.{is_sound}
use Rattle.threadlet_code.specs.Sound.{KeepsRules, HeightsLead}
use Rattle.threadlet_code.specs.Fitting.{AreSlots, FitsFrame, AllWait, Fits}
use Rattle.threadlet_code.proofs.Among.{Among, of_each}
use Rattle.threadlet_code.proofs.Bools.{from_le}
use Rattle.threadlet_code.proofs.Kept.{keeps_rules}
use Rattle.threadlet_code.proofs.Leads.{heights_lead}
use Rattle.threadlet_code.proofs.Stepping.{IsAt, effect, at_effect}
use Rattle.threadlet_code.proofs.Fitting.{Taken, takes, joined_size, target_more, entered_fits}

-- What follows fits, and something does.
abbrev pub FitsNext : Code → Next → Type 0
FitsNext code (goes state) = Fits code state
FitsNext code (asks action resume) = (answer : List ℤ) → Fits code (resume answer)
FitsNext code (stops action) = Unit {0}
FitsNext code stuck = ⊥

module _ (code : Code) (sound : is_sound code ≡ true) (frame : Frame) (fit : FitsFrame code 0 frame) where
  abbrev f : FuncCode
  f = fit.f

  lead : HeightsLead code frame.function f
  lead = heights_lead code sound frame.function f fit.known

  keeps : KeepsRules code f
  keeps = keeps_rules code sound frame.function f fit.known

  here_at : known_at (heights code frame.function f) frame.at ≡ Some (length frame.stack)
  here_at = let same : length frame.stack + 0 ≡ length frame.stack = omega arith in fit.height ∙ ap Some same

  -- A frame that fits is at an instruction that has its operands.
  pub record Ready : Type 0 where
    pub instr : Instr
    pub words : List ℤ
    pub rest : List ℤ
    pub at : IsAt code frame f instr words rest
    pub many : length words ≡ at.count
    pub left : length rest + at.count ≡ length frame.stack

  pub ready : Ready
  ready = by_instr (slice_get f.body frame.at) refl
    where
      by_taken : (instr : Instr) → slice_get f.body frame.at ≡ Some instr → (n : ℕ) → operands code instr ≡ Some n → Taken n frame.stack [] → Ready
      by_taken instr here n counted t = record {
        instr = instr;
        words = t.got;
        rest = t.rest;
        at = record { count = n; known = fit.known; here = here; counted = counted; took = t.took };
        many = omega (arith, t.many);
        left = t.left;
      }

      by_count : (instr : Instr) → slice_get f.body frame.at ≡ Some instr → (o : Option ℕ) → operands code instr ≡ o → has_operands (length frame.stack) o ≡ true → Ready
      by_count instr here None counted has = absurd (let wrong : false ≡ true = has in cc)
      by_count instr here (Some n) counted has = by_taken instr here n counted (takes n frame.stack [] (from_le n (length frame.stack) has))

      by_instr : (o : Option Instr) → slice_get f.body frame.at ≡ o → Ready
      by_instr None here = absurd (let lt = lead.inside frame.at (length frame.stack) here_at in no_item f.body frame.at lt here)
        where
          no_item : (xs : List Instr) (i : ℕ) → i < length xs → slice_get xs i ≡ None → ⊥
          no_item [] i lt e = absurd (omega arith)
          no_item (x ∷ xs) zero lt e = let wrong : Some x ≡ None = e in cc
          no_item (x ∷ xs) (suc i) lt e = no_item xs i (omega arith) e
      by_instr (Some instr) here =
          by_count instr here (operands code instr) refl (lead.enough frame.at (length frame.stack) instr here_at here)

  module _ (instr : Instr) (words rest : List ℤ) (at : IsAt code frame f instr words rest) (left : length rest + at.count ≡ length frame.stack) where
    -- The frame at a place behind the instruction.
    behind : (waits to : ℕ) (next : Frame) → next.function ≡ frame.function → next.at ≡ to → Among to (successors frame.at instr) →
        length next.slots ≡ length frame.slots → AreSlots f.slots next.targets → length next.stack + waits ≡ length rest + results instr → FitsFrame code waits next
    behind waits to next same there leads slots targets top = record {
      f = f;
      known = ap (slice_get code.functions) same ∙ fit.known;
      slots = slots ∙ fit.slots;
      targets = targets;
      height =
          ap (λ k. known_at (heights code k f) next.at) same ∙ ap (known_at (heights code frame.function f)) there
          ∙ of_each (λ to. known_at (heights code frame.function f) to ≡ Some (exchanged (length frame.stack) (operands code instr) (results instr))) (successors frame.at instr) to
          (lead.behind frame.at (length frame.stack) instr here_at at.here) leads
          ∙ ap Some (ap (λ o. exchanged (length frame.stack) o (results instr)) at.counted
          ∙ (let e : length frame.stack - at.count + results instr ≡ length next.stack + waits = omega (arith, left, top) in e));
    }

-- ---- instruction by instruction

module _ (code : Code) (sound : is_sound code ≡ true) (frame : Frame) (frames : State) (fit : FitsFrame code 0 frame) (wait : AllWait code frames) (deep : suc (length frames) ≤ 256) where
  abbrev over : List ℤ → Frame
  over rest = record frame { stack = rest }

  module _ (instr : Instr) (words rest : List ℤ) (at : IsAt code frame (fit.f) instr words rest) (many : length words ≡ at.count) (left : length rest + at.count ≡ length frame.stack) where
    -- The frame goes on to a place behind the instruction, with the stack that this leaves.
    on_to : (to : ℕ) (next : Frame) → next.function ≡ frame.function → next.at ≡ to → Among to (successors frame.at instr) →
        length next.slots ≡ length frame.slots → AreSlots fit.f.slots next.targets → length next.stack ≡ length rest + results instr → Fits code (next ∷ frames)
    on_to to next same there leads slots targets top =
        (behind code sound frame fit instr words rest at left 0 to next same there leads slots targets (omega (arith, top)), wait, deep)

    -- To the next place, with the same slots and targets.
    on_next : (next : Frame) → next.function ≡ frame.function → next.at ≡ suc frame.at → Among (suc frame.at) (successors frame.at instr) →
        next.slots ≡ frame.slots → next.targets ≡ frame.targets → length next.stack ≡ length rest + results instr → Fits code (next ∷ frames)
    on_next next same there leads slots targets top =
        on_to (suc frame.at) next same there leads (ap length slots) (subst (AreSlots fit.f.slots) (sym targets) fit.targets) top

    call_fits : (p : Pos) (g : ℕ) → instr ≡ by.Call g → (h : Option FuncCode) → slice_get code.functions g ≡ h → FitsNext code (called p g h words (over rest) frames)
    call_fits p g is None e = absurd (let wrong : None ≡ Some at.count = sym (ap (option_map (λ (f : FuncCode). f.params)) e) ∙ ap (operands code) (sym is) ∙ at.counted in cc)
    call_fits p g is (Some h) e = by_depth (suc (length frames) == 256) (eqb_tells (suc (length frames)) 256)
      where
        args_many : length words ≡ h.params
        args_many = many ∙ same_Some at.count h.params (sym at.counted ∙ ap (operands code) is ∙ ap (option_map (λ (f : FuncCode). f.params)) e)

        waiting : FitsFrame code 1 (onward (over rest))
        waiting = behind code sound frame fit instr words rest at left 1 (suc frame.at) (onward (over rest)) refl refl
            (subst (λ i. Among (suc frame.at) (successors frame.at i)) (sym is) (inl refl)) refl fit.targets
            (ap (λ i. length rest + results i) (sym is))

        by_depth : (b : Bool) → (((suc (length frames) == 256) ≡ true) × (suc (length frames) ≡ 256)) ⊎ (((suc (length frames) == 256) ≡ false) × (suc (length frames) ≡ 256 → ⊥)) →
            FitsNext code (if suc (length frames) == 256 then stops (act.Trap p trap.Depth) else goes (entered g h words ∷ onward (over rest) ∷ frames))
        by_depth b (inl t) = subst (λ b. FitsNext code (if b then stops (act.Trap p trap.Depth) else goes (entered g h words ∷ onward (over rest) ∷ frames))) (sym t.0) tt
        by_depth b (inr t) =
            let ne = t.1 in
            subst (λ b. FitsNext code (if b then stops (act.Trap p trap.Depth) else goes (entered g h words ∷ onward (over rest) ∷ frames))) (sym t.0)
            (entered_fits code sound g h words e args_many, (waiting, wait), omega arith)

    divided_fits : (p : Pos) (o : Option ℤ) → Among (suc frame.at) (successors frame.at instr) → results instr ≡ 1 → FitsNext code (divided p o (λ word. goes (onward (push word (over rest)) ∷ frames)))
    divided_fits p None leads one = tt
    divided_fits p (Some word) leads one = on_next (onward (push word (over rest))) refl refl leads refl refl (omega (arith, one))

    test_fits : (to : ℕ) (zero : Bool) → instr ≡ by.JumpZero to → Fits code ((if zero then record (over rest) { at = to } else onward (over rest)) ∷ frames)
    test_fits to true is =
        on_to to (record (over rest) { at = to }) refl refl (subst (λ i. Among to (successors frame.at i)) (sym is) (inl refl)) refl fit.targets
        (omega (arith, ap results is))
    test_fits to false is =
        on_next (onward (over rest)) refl refl (subst (λ i. Among (suc frame.at) (successors frame.at i)) (sym is) (inr (inl refl))) refl refl (omega (arith, ap results is))

  return_fits : (word : ℤ) (callers : State) → AllWait code callers → length callers ≡ length frames → FitsNext code (returned word callers)
  return_fits word [] wait same = tt
  return_fits word (caller ∷ callers) wait same = (
    record {
      f = wait.0.f;
      known = wait.0.known;
      slots = wait.0.slots;
      targets = wait.0.targets;
      height = let e : length caller.stack + 1 ≡ suc (length caller.stack) + 0 = omega arith in wait.0.height ∙ ap Some e;
    },
    wait.1,
    omega (arith, same),
  )

  -- A target that an instruction names is a slot.
  target_fits : (g : ℕ) (target : Option ℕ) (hinted : Bool) (words rest : List ℤ) → IsAt code frame (fit.f) (by.Spawn g target hinted) words rest → AreSlots fit.f.slots (target ∷ [])
  target_fits g None hinted words rest at = tt
  target_fits g (Some slot) hinted words rest at =
      ((keeps code sound frame fit).slots frame.at slot (ap (option_and_then slot_named) at.here), tt)

  each_fits : (instr : Instr) (words rest : List ℤ) → (at : IsAt code frame (fit.f) instr words rest) → length words ≡ at.count → length rest + at.count ≡ length frame.stack →
      FitsNext code (effect code frame frames (fit.f) instr words rest)
  each_fits (by.Push w) words rest at many left = on_next _ words rest at many left _ refl refl (inl refl) refl refl (omega arith)
  each_fits (by.Get i) words rest at many left = on_next _ words rest at many left _ refl refl (inl refl) refl refl (omega arith)
  each_fits (by.Set i) words rest at many left =
      on_to _ words rest at many left (suc frame.at) _ refl refl (inl refl) (length-set frame.slots i (word_at words 0)) fit.targets (omega arith)
  each_fits by.Pop words rest at many left = on_next _ words rest at many left _ refl refl (inl refl) refl refl (omega arith)
  each_fits by.Dup words rest at many left = on_next _ words rest at many left _ refl refl (inl refl) refl refl (omega arith)
  each_fits (by.Un op) words rest at many left = on_next _ words rest at many left _ refl refl (inl refl) refl refl (omega arith)
  each_fits (by.Bin op) words rest at many left =
      divided_fits (by.Bin op) words rest at many left (place_in fit.f frame.at) (binary_of op (word_at words 0) (word_at words 1)) (inl refl) refl
  each_fits (by.Jump to) words rest at many left = on_to _ words rest at many left to _ refl refl (inl refl) refl fit.targets (omega arith)
  each_fits (by.JumpZero to) words rest at many left = test_fits (by.JumpZero to) words rest at many left to (same_word (word_at words 0) (pos 0)) refl
  each_fits (by.Call g) words rest at many left = call_fits (by.Call g) words rest at many left (place_in fit.f frame.at) g refl (slice_get code.functions g) refl
  each_fits by.Return words rest at many left = return_fits (word_at words 0) frames wait refl
  each_fits by.Turn words rest at many left = λ answer. on_next _ words rest at many left _ refl refl (inl refl) refl refl (omega arith)
  each_fits by.Load words rest at many left = λ answer. on_next _ words rest at many left _ refl refl (inl refl) refl refl (omega arith)
  each_fits (by.Post op) words rest at many left = λ answer. on_next _ words rest at many left _ refl refl (inl refl) refl refl (omega arith)
  each_fits by.FetchAdd words rest at many left = λ answer. on_next _ words rest at many left _ refl refl (inl refl) refl refl (omega arith)
  each_fits by.FetchSwap words rest at many left = λ answer. on_next _ words rest at many left _ refl refl (inl refl) refl refl (omega arith)
  each_fits by.FetchCas words rest at many left = λ answer. on_next _ words rest at many left _ refl refl (inl refl) refl refl (omega arith)
  each_fits by.Init words rest at many left = λ answer. on_next _ words rest at many left _ refl refl (inl refl) refl refl (omega arith)
  each_fits by.Fence words rest at many left = λ answer. on_next _ words rest at many left _ refl refl (inl refl) refl refl (omega arith)
  each_fits by.Move words rest at many left = λ answer. on_next _ words rest at many left _ refl refl (inl refl) refl refl (omega arith)
  each_fits by.Where words rest at many left = λ answer. on_next _ words rest at many left _ refl refl (inl refl) refl refl (omega arith)
  each_fits (by.Print i) words rest at many left = λ answer. on_next _ words rest at many left _ refl refl (inl refl) refl refl (omega arith)
  each_fits (by.Alloc kind) words rest at many left = λ answer. on_next _ words rest at many left _ refl refl (inl refl) refl refl (omega arith)
  each_fits (by.Spawn g target hinted) words rest at many left = λ answer.
      on_to _ words rest at many left (suc frame.at) _ refl refl (inl refl) refl
      (target_more fit.f.slots frame.targets target fit.targets (target_fits g target hinted words rest at)) (omega arith)
  each_fits by.Sync words rest at many left = λ answer.
      on_to _ words rest at many left (suc frame.at) _ refl refl (inl refl) (joined_size frame.slots frame.targets answer) tt (omega arith)

pub fits_next : (code : Code) → is_sound code ≡ true → (state : State) → Fits code state → FitsNext code (step code state)
fits_next code sound [] fits = fits
fits_next code sound (frame ∷ frames) fits =
    let r = ready code sound frame fits.0 in
    subst (FitsNext code) (sym (at_effect code frame frames fits.0.f r.instr r.words r.rest r.at))
    (each_fits code sound frame frames fits.0 fits.1 fits.2 r.instr r.words r.rest r.at r.many r.left)
