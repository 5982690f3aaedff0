-- The deepest of frames that fit goes on behind its action.
use Rattle.std.proofs.Common.{◌≡◌, ℕ, suc, ◌+◌, ◌-◌, ◌≤◌, List, [], ◌∷◌, length, Option, Some, None, refl, sym, ap, ◌∙◌, subst, arith, Bool, true, false, ℤ}
use Rattle.std.specs.Prelude.{slice_get, reverse, map, option_and_then, if◌then◌else◌, ◌==◌}
use Rattle.std.specs.List.{slice_range}
use Rattle.std.proofs.lemmas.Option.{same_Some}
use Rattle.word_ops.specs.declared.ending.TrapKind.TheVariants as trap
use Rattle.word_ops.specs.declared.place.Pos.{Pos}
use Rattle.word_ops.specs.Operators.{binary_of}
use Rattle.world_model.specs.Action as act
use Rattle.world_model.specs.Action.{Action}
use Rattle.world_model.specs.Activation.{word_at, max_depth}
use Rattle.threadlet_code.specs.declared.instr.Instr.{Instr}
use Rattle.threadlet_code.specs.declared.instr.Instr.TheVariants as by
use Rattle.threadlet_code.specs.declared.code.FuncCode.{FuncCode}
use Rattle.threadlet_code.specs.declared.code.Code.{Code}
use Rattle.threadlet_code.specs.Fitting.{AreSlots, Fits}
use Rattle.threadlet_code.specs.Machine as machine
use Rattle.threadlet_code.specs.Machine.{State, Next, goes, asks, stops, stuck, entered, onward, push, answered, divided, called, returned, spawn_of, action_of, does_silently, acts_or_goes, does, pops, place_in, step}
use Rattle.threadlet_code.specs.Naming.{function_named, format_named, successors, is_spawn as spawns}
use Rattle.threadlet_code.specs.Operands.{operands, results}
use Rattle.threadlet_code.specs.Sound.{OfEach, HeightsLead}
use Rattle.threadlet_code.specs.Verdict.{IsShort}
use Rattle.threadlet_code.specs.Ways.{exchanged, heights, known_at}
use Rattle.threadlet_code.proofs.FitLaws.{never_stuck}
use Rattle.threadlet_code.proofs.FitsNext.{FitsNext, fits_next}
use Rattle.threadlet_code.proofs.Kept.{keeps_rules}
use Rattle.threadlet_code.proofs.Leads.{heights_lead}
use Rattle.threadlet_state.specs.declared.frame.Frame.{Frame}
use Rattle.threadlet_state.specs.Activations.{activation, activation_in, state_of}
use Rattle.threadlet_state.specs.Answered.{is_asked, is_spawn, IsAnswered, NamesWhatIsThere, without, IsReady, GoesOnBehind}
use Rattle.threadlet_state.specs.Fit.{IsLaidOut}
use Rattle.threadlet_state.specs.Silent.{stays}
use Rattle.threadlet_state.proofs.FrameLaws.{run_to}
use Rattle.threadlet_state.proofs.Rooms.{moves_frames, acts_of}
use Rattle.threadlet_state.proofs.Stacks.{arguments_taken}
use Rattle.threadlet_state.proofs.Here as deep
use Rattle.threadlet_state.proofs.Here.{IsDeepest}

-- ---- what is answered

-- Where it goes on once it is answered.
abbrev resumed : Next → List ℤ → State
resumed (asks action resume) answer = resume answer
resumed _ answer = []

resumed_fits : (code : Code) (next : Next) → is_asked next ≡ true → FitsNext code next → (answer : List ℤ) → Fits code (resumed next answer)
resumed_fits code (asks action resume) asked fits answer = fits answer
resumed_fits code (goes state) asked fits answer = absurd (let wrong : false ≡ true = asked in cc)
resumed_fits code (stops action) asked fits answer = absurd (let wrong : false ≡ true = asked in cc)
resumed_fits code stuck asked fits answer = absurd (let wrong : false ≡ true = asked in cc)

module _ (code : Code) (at : Pos) (words : List ℤ) (frame : machine.Frame) (frames : State) where
  -- Silent instructions are not answered.
  divided_asks : (o : Option ℤ) (next : ℤ → State) → is_asked (divided at o (λ word. goes (next word))) ≡ false
  divided_asks None next = refl
  divided_asks (Some word) next = refl

  called_asks : (g : ℕ) (o : Option FuncCode) → is_asked (called at g o words frame frames) ≡ false
  called_asks g None = refl
  called_asks g (Some f) = by_depth (suc (length frames) == max_depth)
    where
      by_depth : (b : Bool) → is_asked (if b then stops (act.Trap at trap.Depth) else goes (entered g f words ∷ onward frame ∷ frames)) ≡ false
      by_depth true = refl
      by_depth false = refl

  returned_asks : (word : ℤ) (callers : State) → is_asked (returned word callers) ≡ false
  returned_asks word [] = refl
  returned_asks word (caller ∷ callers) = refl

  silent_asks : (instr : Instr) → is_asked (does_silently code at instr words frame frames) ≡ false
  silent_asks (by.Bin op) = divided_asks (binary_of op (word_at words 0) (word_at words 1)) (λ word. onward (push word frame) ∷ frames)
  silent_asks (by.Call g) = called_asks g (slice_get code.functions g)
  silent_asks by.Return = returned_asks (word_at words 0) frames
  silent_asks other = refl

  acts_resumes : (instr : Instr) (o : Option Action) → is_asked (acts_or_goes code at instr words frame frames o) ≡ true → (answer : List ℤ) →
      resumed (acts_or_goes code at instr words frame frames o) answer ≡ onward (answered instr answer frame) ∷ frames
  acts_resumes instr (Some action) asked answer = refl
  acts_resumes instr None asked answer = absurd (let wrong : false ≡ true = sym (silent_asks instr) ∙ asked in cc)

  -- What acts goes on to the next place.
  acts_onward : (depth place : ℕ) (instr : Instr) → is_asked (acts_or_goes code at instr words frame frames (action_of code at depth instr words)) ≡ true →
      successors place instr ≡ suc place ∷ []
  acts_onward depth place (by.Jump to) asked = absurd (let wrong : false ≡ true = asked in cc)
  acts_onward depth place (by.JumpZero to) asked = absurd (let wrong : false ≡ true = asked in cc)
  acts_onward depth place by.Return asked = absurd (let wrong : false ≡ true = sym (silent_asks by.Return) ∙ asked in cc)
  acts_onward depth place other asked = refl

  spawn_spawns : (depth g : ℕ) (hinted : Bool) (resume : List ℤ → State) → is_spawn (asks (spawn_of at depth g hinted words) resume) ≡ true
  spawn_spawns depth g false resume = refl
  spawn_spawns depth g true resume = refl

  acts_spawn : (depth : ℕ) (instr : Instr) → spawns (Some instr) ≡ true → is_spawn (acts_or_goes code at instr words frame frames (action_of code at depth instr words)) ≡ true
  acts_spawn depth (by.Spawn g target hinted) is = spawn_spawns depth g hinted (λ answer. onward (answered (by.Spawn g target hinted) answer frame) ∷ frames)
  acts_spawn depth other is = absurd (let wrong : false ≡ true = is in cc)

-- ---- in the deepest frame

module _ {code : Code} {before : List Frame} {frame : Frame} {callers : List Frame} (d : IsDeepest code before frame callers)
    (f : FuncCode) (known : slice_get code.functions frame.function ≡ Some f) (instr : Instr) (at_instr : slice_get f.body frame.at ≡ Some instr) where
  abbrev under : State
  under = map (activation_in code) callers

  lead : HeightsLead code frame.function f
  lead = heights_lead code d.sound frame.function f known

  pub names_there : NamesWhatIsThere code instr
  names_there =
      let keeps = keeps_rules code d.sound frame.function f known in
      record {
        function = λ g named. keeps.functions frame.at g (ap (option_and_then function_named) at_instr ∙ named);
        format = λ i named. keeps.formats frame.at i (ap (option_and_then format_named) at_instr ∙ named);
      }

  module _ (count : ℕ) (counted : operands code instr ≡ Some count) where
    abbrev words : List ℤ
    words = slice_range frame.words (f.slots + frame.top - count) (f.slots + frame.top)

    -- The frame without its operands, and what the instruction does then.
    abbrev rest : machine.Frame
    rest = activation f.slots (without count frame)

    abbrev acted : Next
    acted = acts_or_goes code (place_in f frame.at) instr words rest under (action_of code (place_in f frame.at) (suc (length under)) instr words)

    enough : count ≤ frame.top
    enough = deep.enough d f known instr at_instr count counted

    acted_is : step code (state_of code before) ≡ acted
    acted_is =
        let laid = deep.laid d f known in
        deep.step_is d f known instr at_instr
        ∙ ap (pops code (place_in f frame.at) instr (activation f.slots frame) under) counted
        ∙ ap (does code (place_in f frame.at) instr (activation f.slots frame) under) (arguments_taken f.slots frame.top count frame.words enough (omega (arith, laid.words, laid.top)))

    targets_there : AreSlots f.slots frame.targets
    targets_there =
        let fits : Fits code (activation f.slots frame ∷ under) = subst (Fits code) (deep.state_is d f known) (deep.fits d).0 in
        subst (λ (h : FuncCode). AreSlots h.slots frame.targets) (same_Some fits.0.f f (sym fits.0.known ∙ known)) fits.0.targets

    pub step_spawns : spawns (Some instr) ≡ true → is_spawn (step code (state_of code before)) ≡ true
    step_spawns is = ap is_spawn acted_is ∙ acts_spawn code (place_in f frame.at) words rest under (suc (length under)) instr is

    module _ (asked : is_asked (step code (state_of code before)) ≡ true) where
      acted_asks : is_asked acted ≡ true
      acted_asks = ap is_asked (sym acted_is) ∙ asked

      room : frame.top - count + results instr ≤ f.height
      room =
          let ways : OfEach (λ to. known_at (heights code frame.function f) to ≡ Some (exchanged frame.top (operands code instr) (results instr))) (suc frame.at ∷ []) =
          subst (OfEach (λ to. known_at (heights code frame.function f) to ≡ Some (exchanged frame.top (operands code instr) (results instr))))
          (acts_onward code (place_in f frame.at) words rest under (suc (length under)) frame.at instr acted_asks)
          (lead.behind frame.at frame.top instr (deep.top_at d f known) at_instr) in
          subst (λ o. exchanged frame.top o (results instr) ≤ f.height) counted (lead.low (suc frame.at) (exchanged frame.top (operands code instr) (results instr)) ways.0)

      -- It can go on.
      pub ready : IsShort code → IsReady f instr count frame
      ready short = record { laid = deep.laid d f known; operands = enough; room = room; targets = targets_there; next_place = deep.next_there d f known short }

      -- It has gone on.
      pub goes_on_behind : (answer : List ℤ) (after : List Frame) (next : Frame) → reverse after ≡ next ∷ callers → next.function ≡ frame.function → IsLaidOut f next →
          GoesOnBehind f instr count answer frame next → IsAnswered code before answer after
      goes_on_behind answer after next becomes same well on =
          let after_is : state_of code after ≡ resumed (step code (state_of code before)) answer =
          deep.state_with d f known after next becomes same
          ∙ ap (λ (x : machine.Frame). x ∷ under) on
          ∙ sym (acts_resumes code (place_in f frame.at) words rest under instr (action_of code (place_in f frame.at) (suc (length under)) instr words) acted_asks answer)
          ∙ ap (λ n. resumed n answer) (sym acted_is) in
          record {
            resumes = λ action resume e. after_is ∙ ap (λ n. resumed n answer) e;
            fits = run_to code (reverse after) (deep.laid_with d f known after next becomes same well)
                (subst (Fits code) (sym after_is) (resumed_fits code (step code (state_of code before)) asked (fits_next code d.sound (state_of code before) (deep.fits d).0) answer));
          }

  -- An action is asked for.
  pub asks_there : stays instr ≡ false → moves_frames instr ≡ false → is_asked (step code (state_of code before)) ≡ true
  asks_there stays_not moves_not = by_count (operands code instr) refl
    where
      by_count : (o : Option ℕ) → operands code instr ≡ o → is_asked (step code (state_of code before)) ≡ true
      by_count None e =
          absurd (never_stuck code d.sound (state_of code before) (deep.fits d).0
          (deep.step_is d f known instr at_instr ∙ ap (pops code (place_in f frame.at) instr (activation f.slots frame) under) e))
      by_count (Some n) e =
          ap is_asked (acted_is n e)
          ∙ ap (λ o. is_asked (acts_or_goes code (place_in f frame.at) instr (words n e) (rest n e) under o))
          (acts_of code (place_in f frame.at) (suc (length under)) instr stays_not moves_not (words n e)).1
