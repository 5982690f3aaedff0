-- A run that is written again is a run.
use Rattle.std.proofs.Common.{◌≡◌, ℕ, suc, List, [], ◌∷◌, ◌++◌, Option, Some, None, refl, sym, ap, ◌∙◌, arith, Result, Ok, Err}
use Rattle.std.specs.Prelude.{IsSome, is_some, option_and_then}
use Rattle.std.specs.Option.{option_map_or}
use Rattle.word_ops.specs.declared.step.Step.{Step}
use Rattle.world_model.specs.World.{Setting, World}
use Rattle.world_model.specs.Step.{step}
use Rattle.world_model.specs.Run.{run_from, run_of, start}
use Rattle.world_model.specs.Upgrade.{pending_in, settle, led_by, upgraded_from, upgraded, checkedly}
use Rattle.world_model.specs.Laws.{NamesDiffer}
use Rattle.world_model.proofs.Runs.{run_from-append}
use Rattle.world_model.proofs.Settling.{settles, step_names, run_names}

abbrev fine : List Step → Result (List Step) ℕ
fine steps = Ok steps

ok_is : {x y : List Step} → fine x ≡ fine y → x ≡ y
ok_is e = cc

from_on : (u : Setting) (told : List Step) (index : ℕ) (w : World) (again : List Step) → NamesDiffer w.strands → upgraded_from u index w told ≡ Ok again → IsSome (run_from u w again)
from_on u [] index w again apart e = ap (λ steps. is_some (run_from u w steps)) (sym (ok_is e))
from_on u (t ∷ told) index w again apart e = go (λ i x more names f. from_on u told i x more names f) (step u w t) refl e
  where
    go : ((i : ℕ) (x : World) (more : List Step) → NamesDiffer x.strands → upgraded_from u i x told ≡ Ok more → IsSome (run_from u x more)) →
        (o : Option World) → step u w t ≡ o →
        option_map_or (λ v. led_by (t ∷ (settle u (pending_in u.nodelets v) v).steps) (upgraded_from u (suc index) (settle u (pending_in u.nodelets v) v).world told)) o (Err index) ≡ Ok again →
        IsSome (run_from u w again)
    go ih None is f = absurd cc
    go ih (Some v) is f = led (upgraded_from u (suc index) (settle u (pending_in u.nodelets v) v).world told) refl f
      where
        names : NamesDiffer v.strands
        names = step_names u w v t apart is

        done : run_from u v (settle u (pending_in u.nodelets v) v).steps ≡ Some (settle u (pending_in u.nodelets v) v).world
        done = (settles u (pending_in u.nodelets v) v names (omega arith)).0

        led : (r : Result (List Step) ℕ) → upgraded_from u (suc index) (settle u (pending_in u.nodelets v) v).world told ≡ r → led_by (t ∷ (settle u (pending_in u.nodelets v) v).steps) r ≡ Ok again →
            IsSome (run_from u w again)
        led (Err i) is_r g = absurd cc
        led (Ok more) is_r g =
            let whole : run_from u w (t ∷ ((settle u (pending_in u.nodelets v) v).steps ++ more)) ≡ run_from u (settle u (pending_in u.nodelets v) v).world more =
            ap (λ o. option_and_then (λ x. run_from u x ((settle u (pending_in u.nodelets v) v).steps ++ more)) o) is
            ∙ run_from-append u v (settle u (pending_in u.nodelets v) v).steps more
            ∙ ap (λ o. option_and_then (λ x. run_from u x more) o) done in
            let rest : IsSome (run_from u (settle u (pending_in u.nodelets v) v).world more) =
            ih (suc index) (settle u (pending_in u.nodelets v) v).world more (run_names u (settle u (pending_in u.nodelets v) v).steps v _ names done) is_r in
            ap (λ steps. is_some (run_from u w steps)) (sym (ok_is g)) ∙ ap (λ o. is_some o) whole ∙ rest

pub upgraded_is_run : (u : Setting) (told again : List Step) → upgraded u told ≡ Ok again → IsSome (run_of (checkedly u) again)
upgraded_is_run u told again e = from_on (checkedly u) told 0 (start (checkedly u)) again (refl, tt) e
