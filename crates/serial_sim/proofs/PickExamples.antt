-- Schedules of a small code on two nodelets, computed; wanted are those that a program of another language gave.
use Rattle.std.proofs.Common.{◌≡◌, ℕ, zero, suc, List, [], ◌∷◌, refl, pos, false}
use Rattle.std.specs.Option.{option_map_or}
use Rattle.rand_core.specs.Pcg32Seed.{pcg32_seed}
use Rattle.rand_core.specs.Steps.{u32_at, word_bytes}
use Rattle.rand_pcg.specs.Lcg.{Lcg}
use Rattle.rand_pcg.specs.Pcg.{pcg32}
use Rattle.word_ops.specs.declared.rules.Rules.TheVariants.{Loose}
use Rattle.mem_atomics.specs.declared.op.Op.TheVariants.{Store}
use Rattle.merge_law.specs.declared.event.Event.{Event}
use Rattle.merge_law.specs.declared.event.Event.TheVariants.{Run, Take}
use Rattle.merge_law.specs.Core.{after}
use Rattle.threadlet_code.specs.declared.instr.Instr.TheVariants as by
use Rattle.core_model.specs.Nodes.{Setup}
use Rattle.core_model.specs.Machine.{machine_of}
use Rattle.core_model.specs.Core.{Core, start_core}
use Rattle.core_model.proofs.Examples.Samples.{function, setup, main}
use Rattle.serial_sim.specs.Schedule.{generator_of, picked}

-- two stores to a word of nodelet 1, and a load of it
abbrev stores : Setup
stores = record (setup Loose (function 0 0 3 false
    (by.Turn ∷ by.Push (pos 36283883716608) ∷ by.Dup ∷ by.Push (pos 1) ∷ by.Post Store ∷ by.Dup ∷ by.Push (pos 2) ∷ by.Post Store ∷ by.Load ∷ by.Return ∷ []) ∷ [])) { nodelets = 2 }

-- the events that words pick one after the other, so many at most
abbrev picks : ℕ → Lcg → Core → List Event
picks zero g c = []
picks (suc n) g c = option_map_or
    (λ event. option_map_or (λ left. event ∷ picks n (pcg32 g).1 left.core) (after (machine_of stores) c event) [])
    (picked stores c (pcg32 g).0) []

picks_of_seed_0 : picks 12 (generator_of 0) (start_core stores) ≡
    Run 0 main ∷ Run 0 main ∷ Take 0 1 ∷ Run 0 main ∷ Take 0 1 ∷ Take 1 0 ∷ Take 1 0 ∷ Run 0 main ∷ Take 0 1 ∷ Run 1 main ∷ Run 1 main ∷ []
unfolding pcg32_seed u32_at word_bytes
picks_of_seed_0 = refl

picks_of_seed_2 : picks 12 (generator_of 2) (start_core stores) ≡
    Run 0 main ∷ Run 0 main ∷ Take 0 1 ∷ Run 0 main ∷ Take 1 0 ∷ Take 0 1 ∷ Take 1 0 ∷ Run 0 main ∷ Take 0 1 ∷ Run 1 main ∷ Run 1 main ∷ []
unfolding pcg32_seed u32_at word_bytes
picks_of_seed_2 = refl
