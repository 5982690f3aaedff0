-- What holds of strands of verified code.
use Rattle.std.proofs.Common.{◌≡◌, ℕ, suc, List, [], ◌∷◌, length, Option, Some, None, refl, sym, ap, ◌∙◌, subst, arith, Bool, true, false, ℤ}
use Rattle.std.specs.Prelude.{slice_get, option_map, drop, if◌then◌else◌, ◌==◌}
use Rattle.std.proofs.lemmas.Option.{same_Some}
use Rattle.word_ops.specs.declared.place.Pos.{Pos}
use Rattle.word_ops.specs.declared.ending.TrapKind.TheVariants as trap
use Rattle.word_ops.specs.Operators.{binary_of}
use Rattle.world_model.specs.Action as act
use Rattle.world_model.specs.Action.{Action, Hint}
use Rattle.threadlet_code.specs.declared.instr.Instr.{Instr}
use Rattle.threadlet_code.specs.declared.instr.Instr.TheVariants as by
use Rattle.threadlet_code.specs.declared.code.FuncCode.{FuncCode}
use Rattle.threadlet_code.specs.declared.code.Code.{Code}
use Rattle.world_model.specs.Activation.{word_at}
use Rattle.threadlet_code.specs.Operands.{params_of, hint_operands}
use Rattle.threadlet_code.specs.Machine.{Frame, State, Next, goes, asks, stops, onward, push, entered, divided, called, returned, place_in, spawn_of, step}
use Rattle.threadlet_code.specs.Fitting.{StartsFit, NeverStuck, SlotsAreThere, SilentFits, AnswerFits, ChildrenFit, SilentStaysTidy, AnswerStaysTidy}
use Rattle.threadlet_code.proofs.Stepping.{IsAt, effect, at_effect}
use Rattle.threadlet_code.proofs.Fitting.{entered_fits}
use Rattle.threadlet_code.proofs.FitsNext.{FitsNext, fits_next, ready}
use Rattle.threadlet_code.proofs.Kept.{keeps_rules}
use Rattle.threadlet_code.proofs.Tidying.{StaysTidy, stays_tidy}

pub starts_fit : StartsFit
starts_fit code sound g f args known count =
    ((entered_fits code sound g f args known count, tt, omega arith), (record { plain = λ h e z. refl; ready = λ h e z. refl }, tt))

pub never_stuck : NeverStuck
never_stuck code sound state fits e = subst (FitsNext code) e (fits_next code sound state fits)

pub slots_are_there : SlotsAreThere
slots_are_there code sound frame fit slot e = omega (arith, (keeps_rules code sound frame.function fit.f fit.known).slots frame.at slot e, fit.slots)

pub silent_fits : SilentFits
silent_fits code sound state after fits e = subst (FitsNext code) e (fits_next code sound state fits)

pub answer_fits : AnswerFits
answer_fits code sound state action resume answer fits e = subst (FitsNext code) e (fits_next code sound state fits) answer

pub silent_stays_tidy : SilentStaysTidy
silent_stays_tidy code sound state after tidy e = subst (StaysTidy code state) e (stays_tidy code sound state tidy)

pub answer_stays_tidy : AnswerStaysTidy
answer_stays_tidy code sound state action resume answer tidy e = subst (StaysTidy code state) e (stays_tidy code sound state tidy) answer

-- ---- children

-- A spawn that follows starts its function with as many arguments as it has parameters.
abbrev SpawnsWell : Code → Action → Type 0
SpawnsWell code (act.Spawn depth g args hint) = (f : FuncCode) × (slice_get code.functions g ≡ Some f) × (length args ≡ f.params)
SpawnsWell code _ = Unit {0}

abbrev AsksWell : Code → Next → Type 0
AsksWell code (asks action resume) = SpawnsWell code action
AsksWell code _ = Unit {0}

divided_well : (code : Code) (p : Pos) (o : Option ℤ) (next : ℤ → State) → AsksWell code (divided p o (λ word. goes (next word)))
divided_well code p None next = tt
divided_well code p (Some word) next = tt

called_well : (code : Code) (p : Pos) (g : ℕ) (h : Option FuncCode) (words : List ℤ) (frame : Frame) (frames : State) → AsksWell code (called p g h words frame frames)
called_well code p g None words frame frames = tt
called_well code p g (Some h) words frame frames = by_depth (suc (length frames) == 256)
  where
    by_depth : (b : Bool) → AsksWell code (if b then stops (act.Trap p trap.Depth) else goes (entered g h words ∷ onward frame ∷ frames))
    by_depth true = tt
    by_depth false = tt

returned_well : (code : Code) (word : ℤ) (callers : State) → AsksWell code (returned word callers)
returned_well code word [] = tt
returned_well code word (caller ∷ callers) = tt

drop_one : (words : List ℤ) (n : ℕ) → length words ≡ suc n → length (drop 1 words) ≡ n
drop_one [] n e = absurd (omega arith)
drop_one (word ∷ words) n e = omega arith

spawn_well : (code : Code) (p : Pos) (depth g : ℕ) (hinted : Bool) (words : List ℤ) (n : ℕ) → option_map (hint_operands hinted) (params_of code g) ≡ Some n → length words ≡ n →
    SpawnsWell code (spawn_of p depth g hinted words)
spawn_well code p depth g hinted words n counted many = by_function (slice_get code.functions g) refl hinted counted
  where
    by_function : (o : Option FuncCode) → slice_get code.functions g ≡ o → (hinted : Bool) →
        option_map (hint_operands hinted) (params_of code g) ≡ Some n → SpawnsWell code (spawn_of p depth g hinted words)
    by_function None e hinted counted =
        absurd (let wrong : None ≡ Some n = sym (ap (λ (o : Option FuncCode). option_map (hint_operands hinted) (option_map (λ (f : FuncCode). f.params) o)) e) ∙ counted in cc)
    by_function (Some f) e false counted =
        (f, e, many ∙ sym (same_Some f.params n (sym (ap (λ (o : Option FuncCode). option_map (hint_operands false) (option_map (λ (f : FuncCode). f.params) o)) e) ∙ counted)))
    by_function (Some f) e true counted =
        (f, e, drop_one words f.params (many ∙ sym (same_Some (suc f.params) n (sym (ap (λ (o : Option FuncCode). option_map (hint_operands true) (option_map (λ (f : FuncCode). f.params) o)) e) ∙ counted))))

module _ (code : Code) (frame : Frame) (frames : State) (f : FuncCode) where
  each_well : (instr : Instr) (words rest : List ℤ) (a : IsAt code frame f instr words rest) → length words ≡ a.count → AsksWell code (effect code frame frames f instr words rest)
  each_well (by.Bin op) words rest a many =
      divided_well code (place_in f frame.at) (binary_of op (word_at words 0) (word_at words 1)) (λ word. onward (push word (record frame { stack = rest })) ∷ frames)
  each_well (by.Call g) words rest a many = called_well code (place_in f frame.at) g (slice_get code.functions g) words (record frame { stack = rest }) frames
  each_well by.Return words rest a many = returned_well code (word_at words 0) frames
  each_well (by.Spawn g target hinted) words rest a many = spawn_well code (place_in f frame.at) (suc (length frames)) g hinted words a.count a.counted many
  each_well other words rest a many = tt

pub children_fit : ChildrenFit
children_fit code sound [] depth g args hint resume fits e = absurd fits
children_fit code sound (frame ∷ frames) depth g args hint resume fits e =
    let r = ready code sound frame fits.0 in
    let well : AsksWell code (step code (frame ∷ frames)) =
    subst (AsksWell code) (sym (at_effect code frame frames fits.0.f r.instr r.words r.rest r.at)) (each_well code frame frames fits.0.f r.instr r.words r.rest r.at r.many) in
    subst (AsksWell code) e well
