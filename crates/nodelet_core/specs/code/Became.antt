-- A nodelet that the code keeps became another by a change of its node.
use Rattle.std.specs.Prelude.{◌≡◌, List, [], ◌∷◌, ◌++◌, Bool, true, Option}
use Rattle.std.specs.List.{list_all}
use Rattle.word_ops.specs.declared.place.Pos.{Pos}
use Rattle.word_ops.specs.declared.step.Entry.{Entry}
use Rattle.threadlet_code.specs.declared.code.Code.{Code}
use Rattle.threadlet_state.specs.declared.context.Context as carried
use Rattle.nodelet_core.specs.declared.nodelet.Nodelet.{Nodelet}
use Rattle.core_model.specs.Nodes.{Node}
use Rattle.nodelet_core.specs.Kept.{node_of, carried_at, SameSettings}

-- Its contexts, its settings and its entries are as before.
pub record Did (change : Node → Node) (before after : Nodelet) : Type 0 where
  pub settings : SameSettings before after
  pub node : (code : Code) → node_of code after ≡ change (node_of code before)
  pub contexts : carried_at after ≡ carried_at before
  pub entries : after.entries ≡ before.entries

-- A property of contexts does not look at their late position.
abbrev pub IsBlind : (carried.Context → Bool) → Type 0
IsBlind p = (x : carried.Context) (late : Option Pos) → p x ≡ true → p (record x { late = late }) ≡ true

-- Its contexts too became others: such a property, where it holds of all that stood before and of all that came,
-- holds of all that stand now. Its settings and its entries are as before.
pub record Became (change : Code → Node → Node) (came : List carried.Context) (before after : Nodelet) : Type 0 where
  pub settings : SameSettings before after
  pub node : (code : Code) → node_of code after ≡ change code (node_of code before)
  pub entries : after.entries ≡ before.entries
  pub keeps : (p : carried.Context → Bool) → IsBlind p → list_all p came ≡ true → list_all p (carried_at before) ≡ true → list_all p (carried_at after) ≡ true

-- It has one entry more, and all else is as before.
pub record HasEntered (entry : Entry) (before after : Nodelet) : Type 0 where
  pub settings : SameSettings before after
  pub node : (code : Code) → node_of code after ≡ node_of code before
  pub contexts : carried_at after ≡ carried_at before
  pub entries : after.entries ≡ before.entries ++ entry ∷ []
