-- What stands at a nodelet, and what travels between nodelets.
use Rattle.std.specs.Prelude.{ℕ, ℤ, List, [], ◌∷◌, Bool, ◌||◌, ◌&&◌, ◌==◌, nat_lt, if◌then◌else◌, Option, Some, None}
use Rattle.word_ops.specs.declared.place.Pos.{Pos}
use Rattle.word_ops.specs.declared.name.Name.{Name}
use Rattle.word_ops.specs.declared.ticket.Ticket.{Ticket}
use Rattle.word_ops.specs.Naming.{same_name}
use Rattle.threadlet_code.specs.Machine.{State}
use Rattle.world_model.specs.World.{Item}

-- A strand that stands at a nodelet or travels to one: its name; the nodelet where it was born; its place, which it
-- keeps until the step that changes it; where its result goes; its activations; and its late position.
pub record Context : Type 0 where
  pub name : Name
  pub home : ℕ
  pub place : ℕ
  pub ticket : Option Ticket
  pub state : State
  pub late : Option Pos

-- What one nodelet sends to another: a strand that goes on there, something that a strand has pending there, word
-- that this is done, with the late position that came of it, or the result of a child.
pub data Body : Type 0 where
  Arrival : Context → Body
  Issued : Name → Item → Body
  Ack : Name → Option Pos → Body
  Returned : Ticket → ℤ → Body

-- ---- contexts in the order of their names

-- A name comes before another: of the lesser nodelet, and of one nodelet the lesser number.
abbrev pub precedes : Name → Name → Bool
precedes p q = nat_lt p.nodelet q.nodelet || (p.nodelet == q.nodelet && nat_lt p.number q.number)

-- A context takes the place of the one of its name, or goes where its name belongs.
abbrev pub with_context : Context → List Context → List Context
with_context x [] = x ∷ []
with_context x (y ∷ ys) =
    if same_name x.name y.name then x ∷ ys
    else (if precedes x.name y.name then x ∷ y ∷ ys else y ∷ with_context x ys)

-- The context of a name is gone.
abbrev pub without_context : Name → List Context → List Context
without_context name [] = []
without_context name (x ∷ xs) = if same_name name x.name then without_context name xs else x ∷ without_context name xs

-- The context of a name, and none where it is not here.
abbrev pub context_of : Name → List Context → Option Context
context_of name [] = None
context_of name (x ∷ xs) = if same_name name x.name then Some x else context_of name xs
