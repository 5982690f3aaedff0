-- A run of verified code is written again as that of the program that it implements.
use Rattle.std.proofs.Common.{◌≡◌, ℕ, zero, suc, List, [], ◌∷◌, Option, Some, None, refl, ap, ◌∙◌, true, unwrap_or, Result, Err}
use Rattle.std.specs.Option.{option_map_or}
use Rattle.word_ops.specs.declared.name.Name.{Name}
use Rattle.word_ops.specs.declared.rules.Rules.TheVariants.{Checked}
use Rattle.word_ops.specs.declared.step.Step.{Step}
use Rattle.word_ops.specs.declared.step.Step.TheVariants.{Apply}
use Rattle.cilk_ast.specs.declared.program.Program.{Program}
use Rattle.threadlet_code.specs.Breaches.{is_sound}
use Rattle.codegen_expr.specs.Implements.{Implements}
use Rattle.world_model.specs.World.{Setting, World}
use Rattle.world_model.specs.Step.{step}
use Rattle.world_model.specs.Run.{start}
use Rattle.world_model.specs.Upgrade.{next_grant, Settled, behind, pending_in, settle, led_by, upgraded_from}
use Rattle.core_model.specs.Nodes.{Setup}
use Rattle.core_model.specs.Core.{setting_of}
use Rattle.refine.specs.Programs.{program_on}
use Rattle.refine.specs.CodeLaws.{UpgradesAlike}
use Rattle.refine.proofs.Known.{AllTake, start_known, step_known}
use Rattle.refine.proofs.Runs.{start-same, step-same}

module _ (u : Setup) (program : Program) (sound : is_sound u.code ≡ true) (implements : Implements u.code program) where
  abbrev on : Setting
  on = setting_of u

  abbrev meant : Setting
  meant = program_on u program

  abbrev after_grant : Setting → World → Name × ℕ → World
  after_grant s w grant = unwrap_or (step s w (Apply grant.0 grant.1)) w

  grant-known : (w : World) (grant : Name × ℕ) → AllTake u.code w → AllTake u.code (after_grant on w grant)
  grant-known w grant all = go (step on w (Apply grant.0 grant.1)) refl
    where
      go : (o : Option World) → step on w (Apply grant.0 grant.1) ≡ o → AllTake u.code (unwrap_or o w)
      go None e = all
      go (Some v) e = step_known u sound w v (Apply grant.0 grant.1) all e

  settle-known : (most : ℕ) (w : World) → AllTake u.code w → AllTake u.code (settle on most w).world
  settle-known zero w all = all
  settle-known (suc most) w all = go (next_grant u.nodelets w) (λ v h. settle-known most v h)
    where
      go : (o : Option (Name × ℕ)) → ((v : World) → AllTake u.code v → AllTake u.code (settle on most v).world) →
          AllTake u.code (option_map_or (λ grant. behind (Apply grant.0 grant.1) (settle on most (after_grant on w grant))) o (record { steps = []; world = w })).world
      go None ih = all
      go (Some grant) ih = ih (after_grant on w grant) (grant-known w grant all)

  settle-same : (most : ℕ) (w : World) → AllTake u.code w → settle on most w ≡ settle meant most w
  settle-same zero w all = refl
  settle-same (suc most) w all = go (next_grant u.nodelets w) (λ v h. settle-same most v h)
    where
      go : (o : Option (Name × ℕ)) → ((v : World) → AllTake u.code v → settle on most v ≡ settle meant most v) →
          option_map_or (λ grant. behind (Apply grant.0 grant.1) (settle on most (after_grant on w grant))) o (record { steps = []; world = w })
          ≡ option_map_or (λ grant. behind (Apply grant.0 grant.1) (settle meant most (after_grant meant w grant))) o (record { steps = []; world = w })
      go None ih = refl
      go (Some grant) ih = ap (behind (Apply grant.0 grant.1)) (ih (after_grant on w grant) (grant-known w grant all)
          ∙ ap (λ (o : Option World). settle meant most (unwrap_or o w)) (step-same u program sound implements w (Apply grant.0 grant.1) all))

  -- a step, and what is written again behind it
  abbrev then_by : Setting → ℕ → Step → List Step → World → Result (List Step) ℕ
  then_by s index t told v = let settled = settle s (pending_in s.nodelets v) v in led_by (t ∷ settled.steps) (upgraded_from s (suc index) settled.world told)

  from-same : (told : List Step) (index : ℕ) (w : World) → AllTake u.code w → upgraded_from on index w told ≡ upgraded_from meant index w told
  from-same [] index w all = refl
  from-same (t ∷ told) index w all =
      go (step on w t) refl (λ v h. from-same told (suc index) v h)
      ∙ ap (λ (o : Option World). option_map_or (then_by meant index t told) o (Err index)) (step-same u program sound implements w t all)
    where
      next : (v : World) → AllTake u.code v → ((x : World) → AllTake u.code x → upgraded_from on (suc index) x told ≡ upgraded_from meant (suc index) x told) → then_by on index t told v ≡ then_by meant index t told v
      next v known ih =
          ap (led_by (t ∷ (settle on (pending_in u.nodelets v) v).steps)) (ih (settle on (pending_in u.nodelets v) v).world (settle-known (pending_in u.nodelets v) v known))
          ∙ ap (λ (s : Settled). led_by (t ∷ s.steps) (upgraded_from meant (suc index) s.world told)) (settle-same (pending_in u.nodelets v) v known)

      go : (o : Option World) → step on w t ≡ o → ((x : World) → AllTake u.code x → upgraded_from on (suc index) x told ≡ upgraded_from meant (suc index) x told) →
          option_map_or (then_by on index t told) o (Err index) ≡ option_map_or (then_by meant index t told) o (Err index)
      go None e ih = refl
      go (Some v) e ih = next v (step_known u sound w v t all e) ih

  whole-same : (told : List Step) → upgraded_from on 0 (start on) told ≡ upgraded_from meant 0 (start meant) told
  whole-same told = from-same told 0 (start on) (start_known u sound) ∙ ap (λ (w : World). upgraded_from meant 0 w told) (start-same u program sound implements)

-- the same setting under the checked rules
abbrev checked : Setup → Setup
checked u = record u { rules = Checked }

pub upgrades_alike : UpgradesAlike
upgrades_alike u program sound implements told = whole-same (checked u) program sound implements told
