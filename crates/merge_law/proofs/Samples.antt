-- What the examples are made of: a small machine of nodelets that write words to each other, and what is looked at.
use Rattle.std.proofs.Common.{ℕ, ◌+◌, List, [], ◌∷◌, Option, Some, None, refl}
use Rattle.std.specs.Prelude.{if◌then◌else◌, ◌==◌, nat_lt, option_map}
use Rattle.word_ops.specs.declared.name.Name.{Name}
use Rattle.word_ops.specs.declared.step.Step.TheVariants as step
use Rattle.word_ops.specs.declared.step.Entry.{Entry}
use Rattle.word_ops.specs.declared.step.NodeEvent.TheVariants as node
use Rattle.merge_law.specs.Machine.{Raw, Machine}
use Rattle.merge_law.specs.Events.{Placed}
use Rattle.merge_law.specs.Core.{Core, After, Played}

pub record Sum : Type 0 where
  pub stamp : ℕ
  pub sum : ℕ

pub record Letter : Type 0 where
  pub stamp : ℕ
  pub word : ℕ

abbrev pub at : ℕ → ℕ → Sum
at stamp sum = record { stamp = stamp; sum = sum }

abbrev pub letter : ℕ → ℕ → Letter
letter stamp word = record { stamp = stamp; word = word }

-- the strand that writes a word to a nodelet
abbrev pub writes : ℕ → ℕ → Name
writes to word = record { nodelet = to; number = word }

-- 0 is never written, and no word from 100 on is taken
abbrev written : ℕ → Sum → Name → Option (Raw Sum ℕ)
written k v name =
    if name.number == 0
    then None
    else Some (record { node = v; bodies = λ j. if j == name.nodelet then name.number ∷ [] else []; count = 3; step = Some (step.Act name None) })

abbrev added : ℕ → Sum → ℕ → ℕ → Option (Raw Sum ℕ)
added k v origin word =
    if nat_lt word 100
    then Some (record { node = record { stamp = v.stamp; sum = v.sum + word }; bodies = λ j. []; count = 0; step = None })
    else None

abbrev pub summing : ℕ → Machine Sum ℕ Letter
summing n = record {
  nodelets = n;
  run_of = written;
  take_of = added;
  stamp_of = λ v. v.stamp;
  with_stamp = λ s v. record { stamp = s; sum = v.sum };
  packet = λ s word. record { stamp = s; word = word };
  sent_at = λ p. p.stamp;
  body_of = λ p. p.word;
  stamp_of-with_stamp = λ s v. refl;
  sent_at-packet = λ s word. refl;
}

-- the entries of a write and of a take
abbrev pub wrote : ℕ → ℕ → ℕ → Entry
wrote stamp to word = record { stamp = stamp; event = node.Run (writes to word) 3; step = Some (step.Act (writes to word) None) }

abbrev pub took : ℕ → ℕ → Entry
took stamp origin = record { stamp = stamp; event = node.Take origin; step = None }

abbrev pub of : ℕ → Entry → Placed
of nodelet entry = record { nodelet = nodelet; entry = entry }

-- all nodes 0 with this stamp, and these letters on the link from 0 to 1
abbrev pub core : ℕ → List Letter → Core Sum Letter
core stamp letters = record { nodes = λ k. at stamp 0; links = λ from to. if from == 0 then (if to == 1 then letters else []) else [] }

abbrev pub entry_after : Option (After Sum Letter) → Option Placed
entry_after a = option_map (λ x. x.entry) a

abbrev pub node_after : ℕ → Option (After Sum Letter) → Option Sum
node_after k a = option_map (λ x. x.core.nodes k) a

abbrev pub link_after : ℕ → ℕ → Option (After Sum Letter) → Option (List Letter)
link_after from to a = option_map (λ x. x.core.links from to) a

abbrev pub told : Option (Played Sum Letter) → Option (List Placed)
told p = option_map (λ x. x.told) p
