-- A silent step from frames that fit, by what it does to the deepest of them.
use Rattle.std.proofs.Common.{◌≡◌, ◌≢◌, ℕ, suc, ◌+◌, ◌-◌, ◌≤◌, ◌<◌, List, [], ◌∷◌, length, take, Some, refl, sym, ap, ◌∙◌, subst, arith, Bool, true, false, ℤ}
use Rattle.std.specs.Prelude.{slice_get, slice_set, reverse, map, if◌then◌else◌, ◌==◌}
use Rattle.std.proofs.lemmas.List.{length-reverse}
use Rattle.std.proofs.lemmas.Option.{same_Some}
use Rattle.word_ops.specs.declared.ending.TrapKind.TheVariants as trap
use Rattle.world_model.specs.Action as act
use Rattle.world_model.specs.Action.{Action}
use Rattle.threadlet_code.specs.declared.instr.Instr.{Instr}
use Rattle.threadlet_code.specs.declared.instr.Instr.TheVariants as by
use Rattle.threadlet_code.specs.declared.code.FuncCode.{FuncCode}
use Rattle.threadlet_code.specs.declared.code.Code.{Code}
use Rattle.world_model.specs.Activation.{max_depth}
use Rattle.threadlet_code.specs.Operands.{operands}
use Rattle.threadlet_code.specs.Machine as machine
use Rattle.threadlet_code.specs.Machine.{State, Next, goes, asks, stops, stuck, entered, onward, push, pops, does, called, returned, place_in, step}
use Rattle.threadlet_code.specs.Fitting.{FitsFrame, AllWait}
use Rattle.threadlet_code.specs.Verdict.{IsShort}
use Rattle.threadlet_code.proofs.FitLaws.{silent_fits}
use Rattle.threadlet_state.specs.declared.frame.Frame.{Frame}
use Rattle.threadlet_state.specs.Activations.{activation, activation_in, state_of}
use Rattle.threadlet_state.specs.Fit.{IsLaidOut, AreLaidOut}
use Rattle.threadlet_state.specs.Silent.{goes_on, IsStepped, stays, HasRoom, LeadsTo, Leads}
use Rattle.threadlet_state.proofs.FrameLaws.{run_to, as_activation, stack_size}
use Rattle.threadlet_state.proofs.Rooms.{top_known, room_under, has_room, moves_frames, silent_stays}
use Rattle.threadlet_state.proofs.Here as deep
use Rattle.threadlet_state.proofs.Here.{last_set, IsDeepest}

-- An instruction that is neither a call nor a return concerns its frame alone.
pub stays_put : (instr : Instr) → ((g : ℕ) → instr ≢ by.Call g) → instr ≢ by.Return → moves_frames instr ≡ false
stays_put (by.Call g) calls returns = absurd (calls g refl)
stays_put by.Return calls returns = absurd (returns refl)
stays_put other calls returns = refl

module _ {code : Code} {before : List Frame} {frame : Frame} {callers : List Frame} (d : IsDeepest code before frame callers) (silent : goes_on (step code (state_of code before)) ≡ true) where
  goes_to : (next : Next) (state : State) → goes_on next ≡ true → LeadsTo next state → next ≡ goes state
  goes_to (goes after) state on to = ap goes to
  goes_to (asks action resume) state on to = absurd (let wrong : false ≡ true = on in cc)
  goes_to (stops action) state on to = absurd (let wrong : false ≡ true = on in cc)
  goes_to stuck state on to = absurd (let wrong : false ≡ true = on in cc)

  -- Frames that the step leads to, if to any, with the words of their functions.
  stepped : (after : List Frame) → LeadsTo (step code (state_of code before)) (state_of code after) → AreLaidOut code (reverse after) → IsStepped code before after
  stepped after to well =
      let e : step code (state_of code before) ≡ goes (state_of code after) = goes_to (step code (state_of code before)) (state_of code after) silent to in
      record { step_goes = e; fits = run_to code (reverse after) well (silent_fits code d.sound (state_of code before) (state_of code after) (deep.fits d).0 e) }

  module _ (f : FuncCode) (known : slice_get code.functions frame.function ≡ Some f) where
    abbrev here : machine.Frame
    here = activation f.slots frame

    abbrev under : State
    under = map (activation_in code) callers

    module _ (instr : Instr) (at_instr : slice_get f.body frame.at ≡ Some instr) where
      abbrev done : Next
      done = pops code (place_in f frame.at) instr here under (operands code instr)

      done_is : step code (state_of code before) ≡ done
      done_is = deep.step_is d f known instr at_instr

      pub on_stays : moves_frames instr ≡ false → stays instr ≡ true
      on_stays m = silent_stays code (place_in f frame.at) instr here under m (ap goes_on (sym done_is) ∙ silent)

      pub room : IsShort code → moves_frames instr ≡ false → HasRoom f instr frame
      room short m = has_room code d.sound frame f known short instr at_instr (on_stays m) (deep.laid d f known) (deep.top_at d f known)

      -- It does what the instruction does to its frame.
      pub stepped_here : (after : List Frame) (next : Frame) → reverse after ≡ next ∷ callers → next.function ≡ frame.function → IsLaidOut f next →
          Leads instr here (activation f.slots next) → IsStepped code before after
      stepped_here after next becomes same well leads =
          stepped after
          (subst (λ n. LeadsTo n (state_of code after)) (sym done_is)
          (subst (LeadsTo done) (sym (deep.state_with d f known after next becomes same)) (leads code (place_in f frame.at) under)))
          (deep.laid_with d f known after next becomes same well)

    -- ---- a call

    module _ (g : ℕ) (at_instr : slice_get f.body frame.at ≡ Some (by.Call g)) (h : FuncCode) (known_h : slice_get code.functions g ≡ Some h) where
      abbrev args : List ℤ
      args = deep.args d f known g at_instr h known_h

      abbrev left : Frame
      left = deep.left d f known g at_instr h known_h

      well_here : IsLaidOut f frame
      well_here = deep.laid d f known

      leads_if : (b : Bool) (action : Action) (state after : State) → state ≡ after → LeadsTo (if b then stops action else goes state) after
      leads_if true action state after e = tt
      leads_if false action state after e = e

      call_leads : (after : State) → entered g h args ∷ activation f.slots left ∷ under ≡ after → LeadsTo (step code (state_of code before)) after
      call_leads after e =
          subst (λ n. LeadsTo n after) (sym (deep.call_is d f known g at_instr h known_h))
          (leads_if (suc (length under) == max_depth) (act.Trap (place_in f frame.at) trap.Depth) (entered g h args ∷ activation f.slots left ∷ under) after e)

      pub stepped_call : (after : List Frame) (next : Frame) → reverse after ≡ next ∷ left ∷ callers → activation h.slots next ≡ entered g h args → IsLaidOut h next → IsStepped code before after
      stepped_call after next becomes new well =
          stepped after
          (call_leads (state_of code after) (sym after_is))
          (subst (AreLaidOut code) (sym becomes)
          ((λ k e. subst (λ (q : FuncCode). IsLaidOut q next) (same_Some h k (sym there ∙ e)) well), ((λ k e. subst (λ (q : FuncCode). IsLaidOut q left) (same_Some f k (sym known ∙ e)) (record { words = well_here.words; top = omega (arith, well_here.top) })), deep.laid_under d)))
        where
          there : slice_get code.functions next.function ≡ Some h
          there = ap (λ (x : machine.Frame). slice_get code.functions x.function) new ∙ known_h

          after_is : state_of code after ≡ entered g h args ∷ activation f.slots left ∷ under
          after_is =
              ap (map (activation_in code)) becomes
              ∙ ap (λ (x : machine.Frame). x ∷ activation_in code left ∷ under) (as_activation code next h there ∙ new)
              ∙ ap (λ (x : machine.Frame). entered g h args ∷ x ∷ under) (as_activation code left f known)

    -- ---- a return

    module _ (at_instr : slice_get f.body frame.at ≡ Some by.Return) (word : ℤ) (under_it : machine.Frame) (took : here ≡ push word under_it) where
      returns_to : pops code (place_in f frame.at) by.Return here under (operands code by.Return) ≡ returned word under
      returns_to = ap (λ x. pops code (place_in f frame.at) by.Return x under (Some 1)) took

      step_returns : step code (state_of code before) ≡ returned word under
      step_returns = done_is by.Return at_instr ∙ returns_to

      has_caller : 1 ≤ length callers
      has_caller = by_callers callers refl
        where
          by_callers : (cs : List Frame) → callers ≡ cs → 1 ≤ length callers
          by_callers [] e = absurd (let wrong : true ≡ false = sym silent ∙ ap goes_on (step_returns ∙ ap (λ l. returned word (map (activation_in code) l)) e) in cc)
          by_callers (c ∷ cs) e = omega (arith, ap length e)

      -- Below one that returns another waits.
      pub some_under : (frames : List Frame) → callers ≡ reverse frames → 1 ≤ length frames
      some_under frames e = omega (arith, has_caller, ap length e, length-reverse frames)

      module _ (caller : Frame) (others : List Frame) (next_ones : callers ≡ caller ∷ others) (h : FuncCode) (known_h : slice_get code.functions caller.function ≡ Some h) where
        laid_callers : AreLaidOut code (caller ∷ others)
        laid_callers = subst (AreLaidOut code) next_ones (deep.laid_under d)

        waits_for : AllWait code (map (activation_in code) (caller ∷ others))
        waits_for = subst (λ l. AllWait code (map (activation_in code) l)) next_ones (deep.waiting d)

        pub caller_laid : IsLaidOut h caller
        caller_laid = laid_callers.0 h known_h

        -- It has room for the value.
        pub caller_room : caller.top < h.height
        caller_room =
            let fit : FitsFrame code 1 (activation h.slots caller) = subst (FitsFrame code 1) (as_activation code caller h known_h) waits_for.0 in
            omega (arith, room_under code d.sound caller h known_h (caller.top + 1) (top_known code caller h 1 fit known_h (stack_size h caller caller_laid)))

        pub stepped_return : (after : List Frame) (next : Frame) → reverse after ≡ next ∷ others → next.function ≡ caller.function → activation h.slots next ≡ push word (activation h.slots caller) → IsLaidOut h next →
            IsStepped code before after
        stepped_return after next becomes same new well =
            stepped after
            (subst (λ n. LeadsTo n (state_of code after)) (sym (step_returns ∙ ap (λ l. returned word (map (activation_in code) l)) next_ones)) (sym after_is))
            (subst (AreLaidOut code) (sym becomes) ((λ k e. subst (λ (q : FuncCode). IsLaidOut q next) (same_Some h k (sym there ∙ e)) well), laid_callers.1))
          where
            there : slice_get code.functions next.function ≡ Some h
            there = ap (slice_get code.functions) same ∙ known_h

            after_is : state_of code after ≡ push word (activation_in code caller) ∷ map (activation_in code) others
            after_is =
                ap (map (activation_in code)) becomes
                ∙ ap (λ (x : machine.Frame). x ∷ map (activation_in code) others) (as_activation code next h there ∙ new)
                ∙ ap (λ (x : machine.Frame). push word x ∷ map (activation_in code) others) (sym (as_activation code caller h known_h))

    -- ---- an instruction of its own

    module _ (instr : Instr) (at_instr : slice_get f.body frame.at ≡ Some instr) (put : moves_frames instr ≡ false) (lent : Frame) (again : frame ≡ lent) where
      pub stays_there : stays instr ≡ true
      stays_there = on_stays instr at_instr put

      pub room_there : IsShort code → HasRoom f instr lent
      room_there short = subst (HasRoom f instr) again (room instr at_instr short put)

      pub steps_there : (n : ℕ) → n ≡ length before → callers ≡ reverse (take (n - 1) before) → (next : Frame) → next.function ≡ lent.function → IsLaidOut f next → Leads instr (activation f.slots lent) (activation f.slots next) →
          IsStepped code before (slice_set before (n - 1) next)
      steps_there n counted others next function well leads =
          stepped_here instr at_instr (slice_set before (n - 1) next) next
          (last_set before (n - 1) next (deep.size_is d n counted) ∙ ap (λ l. next ∷ l) (sym others))
          (function ∙ ap (λ (x : Frame). x.function) (sym again)) well
          (subst (λ (x : Frame). Leads instr (activation f.slots x) (activation f.slots next)) (sym again) leads)
