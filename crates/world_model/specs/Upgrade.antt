-- A run under the loose rules, written again as one under the checked rules.
use Rattle.std.specs.Prelude.{◌≡◌, ℕ, zero, suc, List, [], ◌∷◌, ◌++◌, length, map, filter, flat_map, sum_by, Bool, true, false, ◌&&◌, ◌||◌, ◌==◌, nat_lt, Option, Some, None, option_map, unwrap_or, Result, Ok, Err}
use Rattle.std.specs.Option.{option_map_or}
use Rattle.std.specs.List.{best_of}
use Rattle.word_ops.specs.declared.name.Name.{Name}
use Rattle.word_ops.specs.declared.rules.Rules.TheVariants.{Loose, Checked}
use Rattle.word_ops.specs.declared.step.Step.{Step}
use Rattle.word_ops.specs.declared.step.Step.TheVariants.{Apply}
use Rattle.word_ops.specs.Report.{below}
use Rattle.world_model.specs.World.{Setting, Item, Operation, Grant, Strand, World}
use Rattle.world_model.specs.Step.{step}
use Rattle.world_model.specs.Run.{run_of, end_of, start}

-- The same setting under the loose rules.
abbrev pub loosely : Setting → Setting
loosely u = record u { rules = Loose }

-- The same setting under the checked rules.
abbrev pub checkedly : Setting → Setting
checkedly u = record u { rules = Checked }

-- ---- grants that stand first

-- The first item is a grant.
abbrev pub grant_stands_first : List Item → Bool
grant_stands_first [] = false
grant_stands_first (Operation _ _ _ _ ∷ _) = false
grant_stands_first (Grant _ ∷ _) = true

-- A strand, and the nodelets of n at which a grant of it stands first.
abbrev pub first_grants_of : ℕ → Name × Strand → List (Name × ℕ)
first_grants_of n entry = map (λ k. (entry.0, k)) (filter (λ k. grant_stands_first (entry.1.pending k)) (below n))

-- The lesser name goes before, and of one name the lesser nodelet.
abbrev pub goes_before : Name × ℕ → Name × ℕ → Bool
goes_before p q =
    nat_lt p.0.nodelet q.0.nodelet || (p.0.nodelet == q.0.nodelet && (nat_lt p.0.number q.0.number
    || (p.0.number == q.0.number && nat_lt p.1 q.1)))

-- The one that goes before all others.
abbrev pub least_of : List (Name × ℕ) → Option (Name × ℕ)
least_of [] = None
least_of (p ∷ ps) = Some (best_of goes_before p ps)

-- The grant that is applied next: the one of the least name, and there the one at the least nodelet.
abbrev pub next_grant : ℕ → World → Option (Name × ℕ)
next_grant n w = least_of (flat_map (first_grants_of n) w.strands)

-- ---- while one stands first, it is applied

-- Steps, and the world after them.
pub record Settled : Type 0 where
  pub steps : List Step
  pub world : World

-- A step, and then these.
abbrev pub behind : Step → Settled → Settled
behind t settled = record { steps = t ∷ settled.steps; world = settled.world }

-- How many items are pending in a world. Each application takes one of them.
abbrev pub pending_in : ℕ → World → ℕ
pending_in n w = sum_by (λ entry. sum_by (λ k. length (entry.1.pending k)) (below n)) w.strands

-- The grants that stand first are applied one after the other, at most so many.
abbrev pub settle : Setting → ℕ → World → Settled
settle u zero w = record { steps = []; world = w }
settle u (suc most) w =
    option_map_or (λ grant. behind (Apply grant.0 grant.1) (settle u most (unwrap_or (step u w (Apply grant.0 grant.1)) w)))
    (next_grant u.nodelets w) (record { steps = []; world = w })

-- ---- the run written again

-- More steps before those of a run that can be written again.
abbrev pub led_by : List Step → Result (List Step) ℕ → Result (List Step) ℕ
led_by steps (Ok more) = Ok (steps ++ more)
led_by steps (Err index) = Err index

-- Each step, and after it all grants that stand first. Where a step is not possible, its number, the first
-- one of `told` having the number given.
abbrev pub upgraded_from : Setting → ℕ → World → List Step → Result (List Step) ℕ
upgraded_from u index w [] = Ok []
upgraded_from u index w (t ∷ told) =
    option_map_or (λ v. let settled = settle u (pending_in u.nodelets v) v in
    led_by (t ∷ settled.steps) (upgraded_from u (suc index) settled.world told))
    (step u w t) (Err index)

-- The steps of a run under the checked rules, or the number, from 0, of the step at which it would change.
abbrev pub upgraded : Setting → List Step → Result (List Step) ℕ
upgraded u told = upgraded_from (checkedly u) 0 (start (checkedly u)) told

-- The run written again ends as the first one did, and wrote the same pieces.
pub record EndsAlike (u : Setting) (told again : List Step) : Type 0 where
  pub end : end_of (checkedly u) again [] ≡ end_of (loosely u) told []
  pub pieces : option_map (λ w. w.pieces) (run_of (checkedly u) again) ≡ option_map (λ w. w.pieces) (run_of (loosely u) told)
