-- What is done from a state on, by its next instruction.
use Rattle.std.proofs.Common.{◌≡◌, [], ◌∷◌, refl, sym, ap, ◌∙◌, subst}
use Rattle.world_model.specs.Action.{Answers}
use Rattle.world_model.specs.Meaning.{make}
use Rattle.threadlet_code.specs.Machine.{asks, stops}
use Rattle.threadlet_code.specs.Running.{from, told}
use Rattle.threadlet_code.specs.Laws.{SilentGoesOn, ActionIsMade, LastActionEnds}
use Rattle.threadlet_code.proofs.Nearing.{IsSettled, due_step, due_now}

pub silent_goes_on : SilentGoesOn
silent_goes_on code turns state after answers e = ap (told answers code) (due_step code turns state after e)

pub action_is_made : ActionIsMade
action_is_made code state action resume answers e =
    ap (told answers code) (due_now code state (subst IsSettled (sym e) tt) ∙ e) ∙ each answers
  where
    each : (answers : Answers) → told answers code (asks action resume) ≡ make action (λ answer. from code (resume answer)) answers
    each [] = refl
    each (answer ∷ answers) = refl

pub last_action_ends : LastActionEnds
last_action_ends code state action answers e =
    ap (told answers code) (due_now code state (subst IsSettled (sym e) tt) ∙ e) ∙ each answers
  where
    each : (answers : Answers) → told answers code (stops action) ≡ action ∷ []
    each [] = refl
    each (answer ∷ answers) = refl
