-- The nodelets of a run, numbered from 0 on.
use Rattle.std.specs.Prelude.{◌≡◌, ℕ, List, [], slice_get, Some, true}
use Rattle.word_ops.specs.declared.rules.Rules.{Rules}
use Rattle.threadlet_code.specs.declared.code.Code.{Code}
use Rattle.nodelet_core.specs.declared.nodelet.Nodelet.{Nodelet}
use Rattle.core_model.specs.Nodes.{Setup}
use Rattle.core_model.specs.Start.{start_node}
use Rattle.nodelet_core.specs.Kept.{node_of, all_fit}

-- A nodelet has this number among n, and the turns and rules of the run.
pub record IsNumbered (n turns : ℕ) (rules : Rules) (k : ℕ) (v : Nodelet) : Type 0 where
  pub number : v.number ≡ k
  pub nodelets : v.nodelets ≡ n
  pub turns_same : v.turns ≡ turns
  pub rules_same : v.rules ≡ rules

-- So has each of these, by its place.
abbrev pub AreNumbered : ℕ → ℕ → Rules → List Nodelet → Type 0
AreNumbered n turns rules nodes = (k : ℕ) (v : Nodelet) → slice_get nodes k ≡ Some v → IsNumbered n turns rules k v

-- What all nodelets of a run share.
abbrev pub setup_with : Code → ℕ → ℕ → Rules → Setup
setup_with code n turns rules = record { code = code; nodelets = n; turns = turns; rules = rules }

-- A nodelet is one before any event, and fits the code.
pub record IsFirst (code : Code) (n turns : ℕ) (rules : Rules) (k : ℕ) (v : Nodelet) : Type 0 where
  pub numbered : IsNumbered n turns rules k v
  pub node : node_of code v ≡ start_node (setup_with code n turns rules) k
  pub fits : all_fit code v ≡ true
  pub entries : v.entries ≡ []

abbrev pub AreFirst : Code → ℕ → ℕ → Rules → List Nodelet → Type 0
AreFirst code n turns rules nodes = (k : ℕ) (v : Nodelet) → slice_get nodes k ≡ Some v → IsFirst code n turns rules k v
