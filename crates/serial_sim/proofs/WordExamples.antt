-- The first words of generators, computed; wanted are those that a program of another language gave for the same
-- generator.
use Rattle.std.proofs.Common.{◌≡◌, ℕ, zero, suc, List, [], ◌∷◌, refl}
use Rattle.rand_core.specs.Pcg32Seed.{pcg32_seed}
use Rattle.rand_core.specs.Steps.{u32_at, word_bytes}
use Rattle.rand_pcg.specs.Lcg.{Lcg}
use Rattle.rand_pcg.specs.Pcg.{pcg32}
use Rattle.serial_sim.specs.Schedule.{generator_of}

abbrev words : ℕ → Lcg → List ℕ
words zero g = []
words (suc n) g = (pcg32 g).0 ∷ words n (pcg32 g).1

words_of_seed_0 : words 4 (generator_of 0) ≡ 298703107 ∷ 4236525527 ∷ 336081875 ∷ 1056616254 ∷ []
unfolding pcg32_seed u32_at word_bytes
words_of_seed_0 = refl

words_of_seed_1 : words 4 (generator_of 1) ≡ 866585574 ∷ 2109535214 ∷ 3403630417 ∷ 296513984 ∷ []
unfolding pcg32_seed u32_at word_bytes
words_of_seed_1 = refl

words_of_the_last_seed : words 4 (generator_of 18446744073709551615) ≡ 2553256318 ∷ 1362994822 ∷ 3759657484 ∷ 3366838333 ∷ []
unfolding pcg32_seed u32_at word_bytes
words_of_the_last_seed = refl
