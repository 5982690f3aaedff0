-- What the taking of a packet adds to the counts of its nodelet. It leaves the first trap.
use Rattle.std.proofs.Common.{ℕ, List, [], ◌∷◌, Option, Some, None, refl, Bool, true, false}
use Rattle.std.specs.Prelude.{if◌then◌else◌}
use Rattle.word_ops.specs.declared.place.Pos.{Pos}
use Rattle.word_ops.specs.declared.name.Name.{Name}
use Rattle.world_model.specs.World.{Operation, Grant}
use Rattle.core_model.specs.Contexts.{Context, Body, Arrival, Issued, Ack, Returned, context_of}
use Rattle.core_model.specs.Nodes.{Setup, Node, is_granted, with_acknowledged, applied_here}
use Rattle.core_model.specs.Effects.{operated}
use Rattle.core_model.specs.Takes.{take, made_late, acknowledged}
use Rattle.core_model.proofs.Traffic.Notes.{Notes, notes_none, stored_notes}

-- an operation that is taken counts, granted or not
abbrev pub worked_by : ℕ → Body → List ℕ
worked_by k (Arrival x) = []
worked_by k (Issued q (Operation op a word at)) = k ∷ []
worked_by k (Issued q (Grant extent)) = []
worked_by k (Ack q late) = []
worked_by k (Returned t value) = []

late_notes : (k : ℕ) (v : Node) (q : Name) (at : Pos) (o : Option Context) → Notes k v (made_late (with_acknowledged v q) at o) [] [] [] [] [] []
late_notes k v q at None = notes_none k v _ refl refl refl
late_notes k v q at (Some x) = notes_none k v _ refl refl refl

ack_notes : (k : ℕ) (v : Node) (q : Name) (late : Option Pos) → Notes k v (acknowledged v q late) [] [] [] [] [] []
ack_notes k v q None = notes_none k v _ refl refl refl
ack_notes k v q (Some at) = late_notes k v q at (context_of q v.contexts)

pub take_notes : (u : Setup) (k : ℕ) (v : Node) (from : ℕ) (body : Body) → Notes k v (take u k v from body).node [] [] [] [] [] (worked_by k body)
take_notes u k v from (Arrival x) = notes_none k v _ refl refl refl
take_notes u k v from (Issued q (Grant extent)) = notes_none k v _ refl refl refl
take_notes u k v from (Issued q (Operation op a word at)) = go (is_granted u.rules v a)
  where
    go : (t : Bool) → Notes k v (if t then operated v op a word else applied_here v) [] [] [] [] [] (k ∷ [])
    go true = stored_notes k v (operated v op a word) refl refl refl
    go false = stored_notes k v (applied_here v) refl refl refl
take_notes u k v from (Ack q late) = ack_notes k v q late
take_notes u k v from (Returned t value) = notes_none k v _ refl refl refl
