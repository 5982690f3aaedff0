-- The deepest frame of frames that fit, and its next instruction.
use Rattle.std.proofs.Common.{◌≡◌, ℕ, suc, ◌+◌, ◌-◌, ◌≤◌, ◌<◌, List, [], ◌∷◌, ◌++◌, length, take, drop, get_or, Some, sym, ap, ◌∙◌, subst, arith, Bool, true, false, ℤ, length-set}
use Rattle.std.specs.Prelude.{slice_get, slice_set, reverse, map, option_map, option_and_then, if◌then◌else◌, ◌==◌, ◌^◌}
use Rattle.std.specs.List.{slice_range}
use Rattle.std.proofs.lemmas.List.{take_all, take_more, take_more_set, set-append_left, get_or_append_left, length-map, length-reverse}
use Rattle.std.proofs.lemmas.Option.{slice_get_within, get_or_from_slice_get, same_Some}
use Rattle.word_ops.specs.declared.ending.TrapKind.TheVariants as trap
use Rattle.world_model.specs.Action as act
use Rattle.world_model.specs.Activation.{max_depth}
use Rattle.threadlet_code.specs.declared.instr.Instr.{Instr}
use Rattle.threadlet_code.specs.declared.instr.Instr.TheVariants as by
use Rattle.threadlet_code.specs.declared.code.FuncCode.{FuncCode}
use Rattle.threadlet_code.specs.declared.code.Code.{Code}
use Rattle.threadlet_code.specs.Operands.{operands}
use Rattle.threadlet_code.specs.Naming.{function_named}
use Rattle.threadlet_code.specs.Machine as machine
use Rattle.threadlet_code.specs.Machine.{State, goes, stops, entered, onward, pops, does, called, place_in, meets, enters, step}
use Rattle.threadlet_code.specs.Breaches.{is_sound}
use Rattle.threadlet_code.specs.Ways.{heights, known_at}
use Rattle.threadlet_code.specs.Fitting.{AllWait, Fits}
use Rattle.threadlet_code.specs.Verdict.{IsShort}
use Rattle.threadlet_code.proofs.Kept.{keeps_rules}
use Rattle.threadlet_code.proofs.Leads.{heights_lead}
use Rattle.threadlet_state.specs.declared.frame.Frame.{Frame}
use Rattle.threadlet_state.specs.Activations.{activation, activation_in, state_of, instr_in}
use Rattle.threadlet_state.specs.Fit.{frames_fit, IsLaidOut, AreLaidOut}
use Rattle.threadlet_state.specs.Silent.{next_instr, first_instr}
use Rattle.threadlet_state.proofs.Stacks.{reverse_more, arguments_taken}
use Rattle.threadlet_state.proofs.FrameLaws.{run_from, as_activation, stack_size}
use Rattle.threadlet_state.proofs.Rooms.{top_known, next_place, has_operands_of}

-- ---- the last of a list

pub last_is : {X : Type 0} (xs : List X) (i : ℕ) (x : X) → length xs ≡ i + 1 → slice_get xs i ≡ Some x → reverse xs ≡ x ∷ reverse (take i xs)
last_is xs i x size e =
    ap reverse (sym (take_all (i + 1) xs (omega (arith, size)))
    ∙ take_more xs i x (slice_get_within xs i x e)
    ∙ ap (λ y. take i xs ++ y ∷ []) (get_or_from_slice_get xs i x x e))
    ∙ reverse_more (take i xs) x

pub last_set : {X : Type 0} (xs : List X) (i : ℕ) (y : X) → length xs ≡ i + 1 → reverse (slice_set xs i y) ≡ y ∷ reverse (take i xs)
last_set xs i y size =
    ap reverse (sym (take_all (i + 1) (slice_set xs i y) (omega (arith, size, length-set xs i y)))
    ∙ take_more_set xs i y (omega (arith, size)))
    ∙ reverse_more (take i xs) y

-- The same item, borrowed again, also where another stands behind the list.
pub same_item : {X : Type 0} (xs : List X) (i : ℕ) (x y : X) → slice_get xs i ≡ Some x → slice_get xs i ≡ Some y → x ≡ y
same_item xs i x y first second = same_Some x y (sym first ∙ second)

pub same_under : {X : Type 0} (xs all : List X) (i : ℕ) (x y z : X) → slice_get xs i ≡ Some x → all ≡ xs ++ z ∷ [] → slice_get all i ≡ Some y → x ≡ y
same_under xs all i x y z first more second =
    sym (get_or_from_slice_get xs i x x first)
    ∙ sym (get_or_append_left xs (z ∷ []) x i (slice_get_within xs i x first))
    ∙ ap (λ l. get_or l i x) (sym more)
    ∙ get_or_from_slice_get all i y x second

-- A list with an item more, and another in the place of its last.
pub one_more : {X : Type 0} (xs : List X) (i : ℕ) (y z : X) → length xs ≡ i + 1 → reverse (slice_set (xs ++ z ∷ []) i y) ≡ z ∷ y ∷ reverse (take i xs)
one_more xs i y z size =
    ap reverse (set-append_left xs (z ∷ []) i y (omega (arith, size)))
    ∙ reverse_more (slice_set xs i y) z
    ∙ ap (λ l. z ∷ l) (last_set xs i y size)

-- ---- frames that fit

some_frames : (code : Code) (frames : List Frame) → frames_fit code frames ≡ true → 1 ≤ length frames
some_frames code [] e = absurd (let wrong : false ≡ true = e in cc)
some_frames code (frame ∷ frames) e = omega arith

-- A function takes no more arguments than it has slots.
pub params_fit : (code : Code) → is_sound code ≡ true → (g : ℕ) (h : FuncCode) → slice_get code.functions g ≡ Some h → h.params ≤ h.slots
params_fit code sound g h known = (keeps_rules code sound g h known).params

-- The deepest of frames that fit sound code, and those that wait for it.
pub record IsDeepest (code : Code) (before : List Frame) (frame : Frame) (callers : List Frame) : Type 0 where
  pub sound : is_sound code ≡ true
  pub fit : frames_fit code before ≡ true
  pub is : reverse before ≡ frame ∷ callers

-- It is the last.
pub deepest : (code : Code) → is_sound code ≡ true → (before : List Frame) → frames_fit code before ≡ true → (n : ℕ) → n ≡ length before →
    (frame : Frame) → slice_get before (n - 1) ≡ Some frame → IsDeepest code before frame (reverse (take (n - 1) before))
deepest code sound before fit n counted frame at_last = record {
  sound = sound;
  fit = fit;
  is = last_is before (n - 1) frame (omega (arith, counted, some_frames code before fit)) at_last;
}

module _ {code : Code} {before : List Frame} {frame : Frame} {callers : List Frame} (d : IsDeepest code before frame callers) where
  pub fits : Fits code (state_of code before) × AreLaidOut code (reverse before)
  fits = run_from code d.sound (reverse before) d.fit

  abbrev pub under : State
  under = map (activation_in code) callers

  fits_in_order : Fits code (activation_in code frame ∷ under)
  fits_in_order = subst (λ l. Fits code (map (activation_in code) l)) d.is fits.0

  laid_all : AreLaidOut code (frame ∷ callers)
  laid_all = subst (AreLaidOut code) d.is fits.1

  pub laid_under : AreLaidOut code callers
  laid_under = laid_all.1

  pub waiting : AllWait code under
  waiting = fits_in_order.1

  pub not_too_deep : suc (length under) ≤ 256
  not_too_deep = fits_in_order.2

  -- How many frames there are.
  pub depth_is : length before ≡ suc (length under)
  depth_is = omega (arith, length-reverse before, ap length d.is, length-map callers (activation_in code))

  pub size_is : (n : ℕ) → n ≡ length before → length before ≡ n - 1 + 1
  size_is n counted = omega (arith, counted, depth_is)

  pub function_there : frame.function < length code.functions
  function_there = slice_get_within code.functions frame.function fits_in_order.0.f fits_in_order.0.known

  pub caller_there : (caller : Frame) (others : List Frame) → callers ≡ caller ∷ others → caller.function < length code.functions
  caller_there caller others next_ones =
      let waits : AllWait code (map (activation_in code) (caller ∷ others)) = subst (λ l. AllWait code (map (activation_in code) l)) next_ones waiting in
      slice_get_within code.functions caller.function waits.0.f waits.0.known

  -- ---- and its function

  module _ (f : FuncCode) (known : slice_get code.functions frame.function ≡ Some f) where
    abbrev pub here : machine.Frame
    here = activation f.slots frame

    pub state_is : state_of code before ≡ here ∷ under
    state_is = ap (map (activation_in code)) d.is ∙ ap (λ (x : machine.Frame). x ∷ under) (as_activation code frame f known)

    pub laid : IsLaidOut f frame
    laid = laid_all.0 f known

    pub top_at : known_at (heights code frame.function f) frame.at ≡ Some frame.top
    top_at =
        let all_fit : Fits code (here ∷ under) = subst (Fits code) state_is fits.0 in
        let same : frame.top + 0 ≡ frame.top = omega arith in
        top_known code frame f 0 all_fit.0 known (stack_size f frame laid) ∙ ap Some same

    -- Where its place is taken by another of its function.
    module _ (after : List Frame) (next : Frame) (becomes : reverse after ≡ next ∷ callers) (same : next.function ≡ frame.function) where
      next_known : slice_get code.functions next.function ≡ Some f
      next_known = ap (slice_get code.functions) same ∙ known

      pub state_with : state_of code after ≡ activation f.slots next ∷ under
      state_with = ap (map (activation_in code)) becomes ∙ ap (λ (x : machine.Frame). x ∷ under) (as_activation code next f next_known)

      pub laid_with : IsLaidOut f next → AreLaidOut code (reverse after)
      laid_with well = subst (AreLaidOut code) (sym becomes) ((λ g e. subst (λ (h : FuncCode). IsLaidOut h next) (same_Some f g (sym next_known ∙ e)) well), laid_under)

    pub place_there : frame.at < length f.body
    place_there = (heights_lead code d.sound frame.function f known).inside frame.at frame.top top_at

    pub next_there : IsShort code → frame.at + 1 < 2 ^ 32
    next_there short = next_place code d.sound frame f known short frame.top top_at

    pub instr_there : (instr : Instr) → next_instr code before ≡ Some instr → slice_get f.body frame.at ≡ Some instr
    instr_there instr next = sym (ap (first_instr code) d.is ∙ ap (instr_in frame) known) ∙ next

    -- A function that is called is there.
    pub callee_there : (g : ℕ) → next_instr code before ≡ Some (by.Call g) → g < length code.functions
    callee_there g next =
        (keeps_rules code d.sound frame.function f known).functions frame.at g (ap (option_and_then function_named) (instr_there (by.Call g) next))

    -- ---- and its next instruction

    module _ (instr : Instr) (at_instr : slice_get f.body frame.at ≡ Some instr) where
      pub step_is : step code (state_of code before) ≡ pops code (place_in f frame.at) instr here under (operands code instr)
      step_is = ap (step code) state_is ∙ ap (enters code here under) known ∙ ap (meets code f here under) at_instr

      pub next_is : next_instr code before ≡ Some instr
      next_is = ap (first_instr code) d.is ∙ ap (instr_in frame) known ∙ at_instr

      pub enough : (n : ℕ) → operands code instr ≡ Some n → n ≤ frame.top
      enough n counted = has_operands_of code d.sound frame f known instr n frame.top at_instr top_at counted

    -- ---- which is a call

    module _ (g : ℕ) (at_instr : slice_get f.body frame.at ≡ Some (by.Call g)) (h : FuncCode) (known_h : slice_get code.functions g ≡ Some h) where
      abbrev pub args : List ℤ
      args = slice_range frame.words (f.slots + frame.top - h.params) (f.slots + frame.top)

      abbrev rest : List ℤ
      rest = reverse (take (frame.top - h.params) (drop f.slots frame.words))

      -- The caller behind its call.
      abbrev pub left : Frame
      left = record frame { top = frame.top - h.params; at = frame.at + 1 }

      params_is : operands code (by.Call g) ≡ Some h.params
      params_is = ap (option_map (λ (k : FuncCode). k.params)) known_h

      left_is : onward (record here { stack = rest }) ≡ activation f.slots left
      left_is = let one : suc frame.at ≡ frame.at + 1 = omega arith in ap (λ k. record here { stack = rest; at = k }) one

      -- Whether it is too deep, by the number of frames.
      abbrev pub too_deep : Bool
      too_deep = suc (length under) == max_depth

      pub call_is : step code (state_of code before) ≡
          (if too_deep then stops (act.Trap (place_in f frame.at) trap.Depth) else goes (entered g h args ∷ activation f.slots left ∷ under))
      call_is =
          step_is (by.Call g) at_instr
          ∙ ap (pops code (place_in f frame.at) (by.Call g) here under) params_is
          ∙ ap (does code (place_in f frame.at) (by.Call g) here under) (arguments_taken f.slots frame.top h.params frame.words (enough (by.Call g) at_instr h.params params_is) (omega (arith, laid.words, laid.top)))
          ∙ ap (λ o. called (place_in f frame.at) g o args (record here { stack = rest }) under) known_h
          ∙ ap (λ (x : machine.Frame). if too_deep then stops (act.Trap (place_in f frame.at) trap.Depth) else goes (entered g h args ∷ x ∷ under)) left_is
