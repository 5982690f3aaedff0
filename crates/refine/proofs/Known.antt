-- Each strand of a run of verified code has as many arguments as its function has parameters.
use Rattle.std.proofs.Common.{◌≡◌, ℕ, List, [], ◌∷◌, length, Option, Some, None, refl, sym, ap, ◌∙◌, subst, true, ℤ}
use Rattle.std.specs.Prelude.{slice_get}
use Rattle.std.proofs.lemmas.Bool.{eqb-true}
use Rattle.word_ops.specs.declared.step.Step.{Step}
use Rattle.world_model.specs.Action.{Action, Answers, Spawn, Hint}
use Rattle.world_model.specs.World.{Status, Live, Ended, Trapped, Strand, World}
use Rattle.world_model.specs.Step.{last_of, due_in, step}
use Rattle.world_model.specs.Run.{start}
use Rattle.threadlet_code.specs.declared.code.Code.{Code}
use Rattle.threadlet_code.specs.declared.code.FuncCode.{FuncCode}
use Rattle.threadlet_code.specs.Breaches.{is_sound}
use Rattle.threadlet_code.specs.Rules.{can_start}
use Rattle.threadlet_code.specs.Machine.{State, Next, goes, asks, stops, stuck}
use Rattle.threadlet_code.specs.Machine as machine
use Rattle.threadlet_code.specs.Running as code
use Rattle.threadlet_code.specs.Running.{halt, room, started, told}
use Rattle.threadlet_code.specs.Fitting.{Fits}
use Rattle.threadlet_code.proofs.FitLaws.{starts_fit, answer_fits, children_fit}
use Rattle.threadlet_code.proofs.Halting.{halts_at_due}
use Rattle.threadlet_code.proofs.Leads.{rules_are_kept}
use Rattle.core_model.specs.Nodes.{Setup}
use Rattle.core_model.specs.Core.{setting_of}
use Rattle.core_model.proofs.Halted.{halted_fits}
use Rattle.core_model.proofs.Actions.LastActions.{IsLast, IsSorted, step_sorted}
use Rattle.refine.proofs.Each.{Each, step-each}

-- a function of the code takes so many arguments
pub record Takes (c : Code) (function : ℕ) (args : List ℤ) : Type 0 where
  pub f : FuncCode
  pub known : slice_get c.functions function ≡ Some f
  pub count : length args ≡ f.params

abbrev pub AllTake : Code → World → Type 0
AllTake c w = Each (Takes c) w.strands

-- what is due is the last action told, where a strand lives
due_of : (status : Status) (o : Option Action) (action : Action) → due_in status o ≡ Some action → o ≡ Some action
due_of Live o action e = e
due_of (Ended value) o action e = absurd cc
due_of (Trapped kind at) o action e = absurd cc

module _ (c : Code) (sound : is_sound c ≡ true) where
  -- a strand whose last action is a Spawn gives the child its arguments
  takes : (answers : Answers) (next : Next) (state : State) → Fits c state → machine.step c state ≡ next →
      (d function : ℕ) (args : List ℤ) (hint : Option Hint) → last_of (told answers c next) ≡ Some (Spawn d function args hint) → Takes c function args
  takes answers (goes after) state fits e d function args hint f = absurd cc
  takes answers stuck state fits e d function args hint f = absurd cc
  takes answers (stops action) state fits e d function args hint f =
      let is : action ≡ Spawn d function args hint = cc in
      absurd (subst (λ (a : Action). IsLast a) is (subst (λ (n : Next). IsSorted n) e (step_sorted c state)))
  takes [] (asks action resume) state fits e d function args hint f =
      let is : action ≡ Spawn d function args hint = cc in
      let g = children_fit c sound state d function args hint resume fits (e ∙ ap (λ (a : Action). asks a resume) is) in
      record { f = g.0; known = g.1; count = g.2 }
  takes (answer ∷ answers) (asks action resume) state fits e d function args hint f =
      go (told answers c (code.due c (resume answer))) f
      (λ g. takes answers (code.due c (resume answer)) (halt c (resume answer)).state
      (halted_fits c sound (resume answer) (answer_fits c sound state action resume answer fits e)) (halts_at_due c sound (resume answer)) d function args hint g)
    where
      go : (rest : List Action) → last_of (action ∷ rest) ≡ Some (Spawn d function args hint) → (last_of rest ≡ Some (Spawn d function args hint) → Takes c function args) → Takes c function args
      go [] g ih =
          let is : action ≡ Spawn d function args hint = cc in
          let h = children_fit c sound state d function args hint resume fits (e ∙ ap (λ (a : Action). asks a resume) is) in
          record { f = h.0; known = h.1; count = h.2 }
      go (x ∷ rest) g ih = ih g

  started_fits : (function : ℕ) (args : List ℤ) → Takes c function args → Fits c (started function (slice_get c.functions function) args)
  started_fits function args t = subst (λ (o : Option FuncCode). Fits c (started function o args)) (sym t.known) (starts_fit c sound function t.f args t.known t.count).0

  pub spawn_takes : (s : Strand) (d function : ℕ) (args : List ℤ) (hint : Option Hint) → Takes c s.function s.args →
      last_of (code.acts c s.function s.args s.answers) ≡ Some (Spawn d function args hint) → Takes c function args
  spawn_takes s d function args hint t e =
      takes s.answers (code.due c begun) (halt c begun).state (halted_fits c sound begun (started_fits s.function s.args t)) (halts_at_due c sound begun) d function args hint e
    where
      begun : State
      begun = started s.function (slice_get c.functions s.function) s.args

module _ (u : Setup) (sound : is_sound u.code ≡ true) where
  pub start_known : AllTake u.code (start (setting_of u))
  start_known = (by (slice_get u.code.functions u.code.main) refl (rules_are_kept u.code sound).0, tt)
    where
      by : (o : Option FuncCode) → slice_get u.code.functions u.code.main ≡ o → can_start o ≡ true → Takes u.code u.code.main []
      by None e f = absurd cc
      by (Some f) e g = record { f = f; known = e; count = let z : f.params ≡ 0 = eqb-true _ _ g in let none : List ℤ = [] in let y : length none ≡ 0 = refl in y ∙ sym z }

  pub step_known : (w v : World) (t : Step) → AllTake u.code w → step (setting_of u) w t ≡ Some v → AllTake u.code v
  step_known w v t all e = step-each (Takes u.code) (setting_of u) w v t all
      (λ s d function args hint holds is_due. spawn_takes u.code sound s d function args hint holds (due_of s.status _ _ is_due)) e
