-- What the examples of cores are made of.
use Rattle.std.specs.Prelude.{ℕ, ℤ, Bool, List, [], map, Option, Some, None, option_map, option_and_then}
use Rattle.word_ops.specs.declared.name.Name.{Name}
use Rattle.word_ops.specs.declared.rules.Rules.{Rules}
use Rattle.word_ops.specs.declared.step.Step.{Step}
use Rattle.word_ops.specs.declared.step.Step.TheVariants as step
use Rattle.word_ops.specs.declared.step.NodeEvent.{NodeEvent}
use Rattle.word_ops.specs.declared.step.NodeEvent.TheVariants as node
use Rattle.merge_law.specs.declared.event.Event.{Event}
use Rattle.merge_law.specs.Core.{Played, play}
use Rattle.merge_law.specs.Merge.{steps_of}
use Rattle.threadlet_code.specs.declared.instr.Instr.{Instr}
use Rattle.threadlet_code.specs.declared.code.FuncCode.{FuncCode}
use Rattle.core_model.specs.declared.trapped.Trapped.{Trapped}
use Rattle.core_model.specs.Nodes.{Setup, Node}
use Rattle.core_model.specs.Machine.{Packet, machine_of}
use Rattle.core_model.specs.Core.{start_core}

-- A function whose instructions all stand in column 1.
abbrev pub function : ℕ → ℕ → ℕ → Bool → List Instr → FuncCode
function params slots height spawns body = record {
  params = params;
  slots = slots;
  height = height;
  spawns = spawns;
  body = body;
  places = map (λ instr. record { line = 1; column = 1 }) body;
}

-- Eight nodelets, with ten turns each.
abbrev pub setup : Rules → List FuncCode → Setup
setup rules functions = record {
  code = record { functions = functions; main = 0; formats = []; globals = 0; replicated = 0 };
  nodelets = 8;
  turns = 10;
  rules = rules;
}

abbrev pub name : ℕ → ℕ → Name
name nodelet number = record { nodelet = nodelet; number = number }

abbrev pub main : Name
main = name 0 0

-- ---- what is looked at

abbrev pub played : Setup → List Event → Option (Played Node Packet)
played u events = play (machine_of u) events (start_core u)

-- The steps of events, where they are legal.
abbrev pub steps : Setup → List Event → Option (List Step)
steps u events = option_map (λ p. steps_of p.told) (played u events)

-- How many instructions an event takes up.
abbrev pub count_in : NodeEvent → ℕ
count_in (node.Run name count) = count
count_in (node.Take origin) = 0

abbrev pub counts : Setup → List Event → Option (List ℕ)
counts u events = option_map (λ p. map (λ x. count_in x.entry.event) p.told) (played u events)

abbrev pub stamps : Setup → List Event → Option (List ℕ)
stamps u events = option_map (λ p. map (λ x. x.entry.stamp) p.told) (played u events)

-- Main's value at a nodelet, and the first trap there.
abbrev pub main_value : Setup → List Event → ℕ → Option ℤ
main_value u events k = option_and_then (λ p. (p.core.nodes k).main_value) (played u events)

abbrev pub first_trap : Setup → List Event → ℕ → Option Trapped
first_trap u events k = option_and_then (λ p. (p.core.nodes k).first_trap) (played u events)

-- ---- steps

abbrev pub act : Name → Step
act q = step.Act q None

abbrev pub spawn : Name → Name → Step
spawn q child = step.Act q (Some child)

abbrev pub apply : Name → ℕ → Step
apply q k = step.Apply q k
