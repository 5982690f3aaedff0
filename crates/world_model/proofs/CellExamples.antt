-- Lists of words, and worlds at rest.
use Rattle.std.proofs.Common.{◌≡◌, [], ◌∷◌, Some, None, refl, arith, true, false, pos}
use Rattle.std.specs.Prelude.{if◌then◌else◌, option_and_then, unwrap_or}
use Rattle.word_ops.specs.declared.step.Step.TheVariants.{Act, Apply}
use Rattle.word_ops.specs.declared.rules.Rules.TheVariants.{Loose}
use Rattle.word_ops.specs.Naming.{same_name}
use Rattle.world_model.specs.Action.{Turn}
use Rattle.world_model.specs.Meaning.{make}
use Rattle.world_model.specs.World.{Setting, Strand, World, Ended}
use Rattle.world_model.specs.Effect.{newborn}
use Rattle.world_model.specs.Step.{due, acted, applied_at}
use Rattle.world_model.specs.Run.{Rest, run_of, start}
use Rattle.world_model.specs.Cells.{AreCells}
use Rattle.world_model.proofs.Samples.{main, ends, alone, setting, loose, act}

there_are_no_words_at_the_start : AreCells (start (loose (alone (ends (pos 0))))).cells []
there_are_no_words_at_the_start = record { in_order = λ i j d less below. absurd (omega (arith, below)); not_zero = λ k d below. absurd (omega (arith, below)); whole = λ k a some. absurd (some refl) }

-- ---- rest

abbrev ended : Setting
ended = loose (alone (ends (pos 0)))

abbrev last : World
last = unwrap_or (run_of ended (act main ∷ [])) (start ended)

abbrev ended_main : Strand
ended_main = record (newborn 0 [] 0) { status = Ended (pos 0) }

a_world_whose_strands_have_ended_is_at_rest : Rest ended last
a_world_whose_strands_have_ended_is_at_rest (Act q child) =
    elim (same_name q main) as (λ t. option_and_then (λ s. acted ended last q s child (due ended s)) (if t then Some ended_main else None) ≡ None) [ true ↦ refl | false ↦ refl ]
a_world_whose_strands_have_ended_is_at_rest (Apply q k) =
    elim (same_name q main) as (λ t. option_and_then (λ s. applied_at ended last q s k (s.pending k)) (if t then Some ended_main else None) ≡ None) [ true ↦ refl | false ↦ refl ]

-- a run that is out of turns
abbrev starved : Setting
starved = setting (alone (make Turn (λ _. ends (pos 0)))) 8 0 Loose

so_is_one_whose_turns_are_served : Rest starved (start starved)
so_is_one_whose_turns_are_served (Act q child) =
    elim (same_name q main) as (λ t. option_and_then (λ s. acted starved (start starved) q s child (due starved s)) (if t then Some (newborn 0 [] 0) else None) ≡ None) [ true ↦ refl | false ↦ refl ]
so_is_one_whose_turns_are_served (Apply q k) =
    elim (same_name q main) as (λ t. option_and_then (λ s. applied_at starved (start starved) q s k (s.pending k)) (if t then Some (newborn 0 [] 0) else None) ≡ None) [ true ↦ refl | false ↦ refl ]
