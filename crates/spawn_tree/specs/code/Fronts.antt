-- What is known of the first missing result of each activation.
use Rattle.std.specs.Prelude.{◌≡◌, ℕ, ◌<◌, ◌≤◌, ◌^◌, ◌-◌, Option, None, IsSome, ℤ, unwrap_or}
use Rattle.std.specs.BTreeMap.{BTreeMap, get}
use Rattle.word_ops.specs.declared.name.Name.{Name}
use Rattle.spawn_tree.specs.declared.Activation.{Activation}
use Rattle.spawn_tree.specs.declared.Child.{Child}
use Rattle.spawn_tree.specs.contracts.ActivationOrd.TheImpl.{ghosts as activations}
use Rattle.spawn_tree.specs.code.Records.{Results, result_in}

-- from the ninth child on, the first whose result is missing, as it is written down
abbrev pub front_at : BTreeMap Activation ℕ → Name → ℕ → ℕ
front_at fronts parent depth = unwrap_or (get activations.cmp fronts (record { parent = parent; depth = depth })) 8

-- of the results of one activation by order: a number is the first from `low` on that is missing, or the last number
pub record IsFront (result : ℕ → Option ℤ) (low front : ℕ) : Type 0 where
  pub behind : low ≤ front
  pub passed : (order : ℕ) → low ≤ order → order < front → IsSome (result order)
  pub missing : front < 2 ^ 64 - 1 → result front ≡ None

-- what is written down is so of each activation
abbrev pub AreFronts : BTreeMap Child ℤ → BTreeMap Activation ℕ → Type 0
AreFronts results fronts = (parent : Name) (depth : ℕ) → IsFront (result_in results parent depth) 8 (front_at fronts parent depth)
