-- What the examples of runs are made of: small meanings, names, and what is looked at in a world.
use Rattle.std.proofs.Common.{ℕ, zero, suc, List, [], ◌∷◌, Option, Some, None, ℤ, pos, map}
use Rattle.std.specs.Prelude.{option_map, option_and_then, replicate}
use Rattle.word_ops.specs.declared.place.Pos.{Pos}
use Rattle.word_ops.specs.declared.name.Name.{Name}
use Rattle.word_ops.specs.declared.rules.Rules.{Rules}
use Rattle.word_ops.specs.declared.rules.Rules.TheVariants.{Loose, Checked}
use Rattle.word_ops.specs.declared.step.Step.{Step}
use Rattle.word_ops.specs.declared.step.Step.TheVariants as step
use Rattle.world_model.specs.Action.{End, Answers}
use Rattle.world_model.specs.Meaning.{Meaning, Acts}
use Rattle.world_model.specs.World.{Setting, Status, World, strand_of}

-- a place in the first line
abbrev pub at : ℕ → Pos
at column = record { line = 1; column = column }

abbrev pub name : ℕ → ℕ → Name
name nodelet number = record { nodelet = nodelet; number = number }

abbrev pub main : Name
main = name 0 0

-- the last action of a strand
abbrev pub ends : ℤ → Acts
ends value answers = End value ∷ []

-- function 0 is main, and any other does what a function of one argument says
abbrev pub program : Acts → (ℤ → Acts) → Meaning
program first other = record { acts = acts; main = 0; globals = 0; replicated = 0 }
  where
    acts : ℕ → List ℤ → Acts
    acts zero args = first
    acts (suc _) [] = other (pos 0)
    acts (suc _) (x ∷ xs) = other x

-- a program without other functions
abbrev pub alone : Acts → Meaning
alone first = program first (λ _. ends (pos 0))

abbrev pub setting : Meaning → ℕ → ℕ → Rules → Setting
setting meaning nodelets turns rules = record { meaning = meaning; nodelets = nodelets; turns = turns; rules = rules }

-- the meaning at 8 nodelets with turns in plenty
abbrev pub loose : Meaning → Setting
loose meaning = setting meaning 8 1000000 Loose

abbrev pub checked : Meaning → Setting
checked meaning = setting meaning 8 1000000 Checked

-- ---- steps

abbrev pub act : Name → Step
act q = step.Act q None

abbrev pub spawn : Name → Name → Step
spawn q child = step.Act q (Some child)

abbrev pub apply : Name → ℕ → Step
apply q nodelet = step.Apply q nodelet

-- the strand acts so many times
abbrev pub acts : ℕ → Name → List Step
acts n q = replicate n (act q)

-- ---- what is looked at

abbrev pub status_of : Name → Option World → Option Status
status_of q world = option_and_then (λ w. option_map (λ s. s.status) (strand_of w q)) world

abbrev pub place_of : Name → Option World → Option ℕ
place_of q world = option_and_then (λ w. option_map (λ s. s.place) (strand_of w q)) world

abbrev pub late_of : Name → Option World → Option (Option Pos)
late_of q world = option_and_then (λ w. option_map (λ s. s.late) (strand_of w q)) world

abbrev pub word_at : ℕ → ℤ → Option World → Option ℤ
word_at nodelet address world = option_map (λ w. w.cells nodelet address) world

abbrev pub answers_of : Name → Option World → Option Answers
answers_of q world = option_and_then (λ w. option_map (λ s. s.answers) (strand_of w q)) world

-- the first item pending at each of these nodelets is applied
abbrev pub apply_at : Name → List ℕ → List Step
apply_at q nodelets = map (λ k. apply q k) nodelets

-- a meaning with so many words of replicated globals
abbrev pub with_replicated : ℕ → Meaning → Meaning
with_replicated words meaning = record meaning { replicated = words }

abbrev pub pieces_of : Option World → Option (List (List ℕ))
pieces_of world = option_map (λ w. w.pieces) world
