-- The state of a context as that of its strand.
use Rattle.std.proofs.Common.{◌≡◌, ℕ, suc, List, [], ◌∷◌, ◌++◌, length, Option, Some, refl, sym, ap, ◌∙◌, subst, Bool, true, false, ℤ}
use Rattle.std.specs.Prelude.{slice_get, if◌then◌else◌, ◌==◌}
use Rattle.world_model.specs.Action.{Action, Answers, Spawn, Sync}
use Rattle.world_model.specs.Meaning.{children_after}
use Rattle.world_model.specs.World.{Strand, Live, children_at}
use Rattle.world_model.specs.Step.{last_of, due_in, due}
use Rattle.threadlet_code.specs.declared.code.Code.{Code}
use Rattle.threadlet_code.specs.declared.code.FuncCode.{FuncCode}
use Rattle.threadlet_code.specs.Breaches.{is_sound}
use Rattle.threadlet_code.specs.Machine.{State, Next, goes, asks, stops, stuck, entered, step}
use Rattle.threadlet_code.specs.Running as code
use Rattle.threadlet_code.specs.Running.{halts, halt, owed, room, settled, started}
use Rattle.threadlet_code.specs.Following.{Follows}
use Rattle.threadlet_code.specs.Fitting.{Fits, AllTidy}
use Rattle.threadlet_code.proofs.Following.{silent_follows, answer_follows, next_is_last, end_is_last}
use Rattle.threadlet_code.proofs.FitLaws.{starts_fit, silent_fits, answer_fits, silent_stays_tidy, answer_stays_tidy}
use Rattle.threadlet_code.proofs.Halting.{halts_at_due}
use Rattle.threadlet_code.proofs.Nearing.{due_step}
use Rattle.threadlet_code.proofs.Kept.{has_turns}
use Rattle.core_model.specs.Core.{setting_of}
use Rattle.core_model.specs.Nodes.{Setup}
use Rattle.core_model.proofs.Halted.{kept_halting}
use Rattle.core_model.specs.Runs.{action_in}

-- the state follows the strand's answers, fits the code, and owes what the strand has to join
pub record IsStateOf (c : Code) (s : Strand) (state : State) : Type 0 where
  pub follows : Follows c s.function s.args s.answers state
  pub fits : Fits c state
  pub tidy : AllTidy c state
  pub owes : (d : ℕ) → owed d state ≡ length (children_at d s.children)

silent_is : (c : Code) → is_sound c ≡ true → (s : Strand) (state after : State) → step c state ≡ goes after → IsStateOf c s state → IsStateOf c s after
silent_is c sound s state after e is =
    let t = silent_stays_tidy c sound state after is.tidy e in
    record {
      follows = silent_follows c sound s.function s.args s.answers state after e is.follows;
      fits = silent_fits c sound state after is.fits e;
      tidy = t.0;
      owes = λ d. t.1 d ∙ is.owes d;
    }

-- it still is where the strand halts
pub halted_is : (c : Code) → is_sound c ≡ true → (s : Strand) (state : State) → IsStateOf c s state → IsStateOf c s (halt c state).state
halted_is c sound s state is = kept_halting c (λ y. IsStateOf c s y) (λ a b e p. silent_is c sound s a b e p) (room c state) 0 state (step c state) refl is

-- what comes next there is what is due, before and behind the silent instructions
pub halted_due : (c : Code) → is_sound c ≡ true → (state : State) → code.due c (halt c state).state ≡ code.due c state
halted_due c sound state = kept_halting c (λ y. code.due c y ≡ code.due c state) (λ a b e p. sym (due_step c (has_turns c sound) a b e) ∙ p) (room c state) 0 state (step c state) refl refl

pub halted_step : (c : Code) → is_sound c ≡ true → (state : State) → step c (halt c state).state ≡ code.due c state
halted_step c sound state = halts_at_due c sound state

-- the action that is due at the nodelet is due in the world
pub due_is : (u : Setup) → is_sound u.code ≡ true → (s : Strand) (state : State) (action : Action) → IsStateOf u.code s state → s.status ≡ Live → action_in (code.due u.code state) ≡ Some action →
    due (setting_of u) s ≡ Some action
due_is u sound s state action is live e = ap (λ t. due_in t (last_of (code.acts u.code s.function s.args s.answers))) live ∙ by (code.due u.code state) refl e
  where
    by : (next : Next) → code.due u.code state ≡ next → action_in next ≡ Some action → last_of (code.acts u.code s.function s.args s.answers) ≡ Some action
    by (goes after) f g = absurd cc
    by stuck f g = absurd cc
    by (asks a resume) f g = (next_is_last u.code s.function s.args s.answers state a resume f is.follows).0 ∙ g
    by (stops a) f g = end_is_last u.code s.function s.args s.answers state a f is.follows ∙ g

-- an answer leads to the state of the strand that has got it
pub answered_is : (c : Code) → is_sound c ≡ true → (s s' : Strand) (state : State) (action : Action) (resume : List ℤ → State) (answer : List ℤ) →
    code.due c state ≡ asks action resume → step c state ≡ asks action resume → IsStateOf c s state →
    s'.function ≡ s.function → s'.args ≡ s.args → s'.answers ≡ s.answers ++ answer ∷ [] →
    ((d : ℕ) → children_after action (λ e. length (children_at e s.children)) d ≡ length (children_at d s'.children)) → IsStateOf c s' (resume answer)
answered_is c sound s s' state action resume answer is_due is_next is e1 e2 e3 e4 =
    let t = answer_stays_tidy c sound state action resume answer is.tidy is_next in
    record {
      follows = subst (λ (g : ℕ). Follows c g s'.args s'.answers (resume answer)) (sym e1)
          (subst (λ (a : List ℤ). Follows c s.function a s'.answers (resume answer)) (sym e2)
          (subst (λ (a : Answers). Follows c s.function s.args a (resume answer)) (sym e3)
          (answer_follows c s.function s.args s.answers state action resume answer is_due is.follows)));
      fits = answer_fits c sound state action resume answer is.fits is_next;
      tidy = t.0;
      owes = λ d. t.1 d ∙ same_after action (λ e. owed e state) (λ e. length (children_at e s.children)) d (is.owes d) ∙ e4 d;
    }
  where
    same_after : (a : Action) (f g : ℕ → ℕ) (d : ℕ) → f d ≡ g d → children_after a f d ≡ children_after a g d
    same_after (Spawn e h args hint) f g d same = ap (λ y. if d == e then suc y else y) same
    same_after (Sync e) f g d same = ap (λ y. if d == e then 0 else y) same
    same_after _ f g d same = same

-- a strand that has just begun
pub begun_is : (c : Code) → is_sound c ≡ true → (s : Strand) (f : FuncCode) → slice_get c.functions s.function ≡ Some f → length s.args ≡ f.params → s.answers ≡ [] → s.children ≡ [] →
    IsStateOf c s (started s.function (slice_get c.functions s.function) s.args)
begun_is c sound s f known count none childless =
    subst (λ (o : Option FuncCode). IsStateOf c s (started s.function o s.args)) (sym known) (record {
      follows = subst (λ (a : Answers). Follows c s.function s.args a (entered s.function f s.args ∷ [])) (sym none)
          (ap (λ (o : Option FuncCode). code.due c (started s.function o s.args)) (sym known));
      fits = begins.0;
      tidy = begins.1;
      owes = λ d. nothing d (d == 1) ∙ ap (λ l. length (children_at d l)) (sym childless);
    })
  where
    begins : Fits c (entered s.function f s.args ∷ []) × AllTidy c (entered s.function f s.args ∷ [])
    begins = starts_fit c sound s.function f s.args known count

    nothing : (d : ℕ) (t : Bool) → let none : ℕ = if t then 0 else 0 in none ≡ 0
    nothing d true = refl
    nothing d false = refl
