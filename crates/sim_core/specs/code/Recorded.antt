-- What nodelets have recorded, by their places.
use Rattle.std.specs.Prelude.{ℕ, List, [], map, Option, Some, None}
use Rattle.word_ops.specs.declared.step.Entry.{Entry}
use Rattle.nodelet_core.specs.declared.nodelet.Nodelet.{Nodelet}

-- The entries of each.
abbrev pub parts_in : List Nodelet → List (List Entry)
parts_in nodes = map (λ (v : Nodelet). v.entries) nodes

-- The pieces of a nodelet, if it is there.
abbrev pub pieces_in : Option Nodelet → List (List ℕ)
pieces_in None = []
pieces_in (Some v) = v.services.pieces
