-- Runs of steps followed by more steps.
use Rattle.std.proofs.Common.{◌≡◌, List, [], ◌∷◌, ◌++◌, Some, None, refl}
use Rattle.std.specs.Prelude.{option_and_then}
use Rattle.word_ops.specs.declared.step.Step.{Step}
use Rattle.world_model.specs.World.{Setting, World}
use Rattle.world_model.specs.Step.{step}
use Rattle.world_model.specs.Run.{run_from}

pub run_from-append : (u : Setting) (w : World) (told more : List Step) →
    run_from u w (told ++ more) ≡ option_and_then (λ v. run_from u v more) (run_from u w told)
run_from-append u w [] more = refl
run_from-append u w (t ∷ told) more =
    elim (step u w t) as (λ o. option_and_then (λ v. run_from u v (told ++ more)) o ≡ option_and_then (λ v. run_from u v more) (option_and_then (λ v. run_from u v told) o))
    [ None ↦ refl | Some v ↦ run_from-append u v told more ]
