-- A nodelet, and the nodelet with one thing changed.
use Rattle.std.specs.Prelude.{ℕ, suc, ◌+◌, ◌-◌, ℤ, List, [], ◌∷◌, ◌++◌, Bool, true, ◌&&◌, ◌||◌, ◌==◌, nat_lt, if◌then◌else◌, Option, Some, None}
use Rattle.std.specs.Option.{option_or}
use Rattle.word_ops.specs.declared.name.Name.{Name}
use Rattle.word_ops.specs.declared.ticket.Ticket.{Ticket}
use Rattle.word_ops.specs.declared.rules.Rules.{Rules}
use Rattle.word_ops.specs.declared.rules.Rules.TheVariants.{Loose, Checked}
use Rattle.word_ops.specs.Naming.{same_name}
use Rattle.word_ops.specs.Operators.{same_word}
use Rattle.threadlet_code.specs.declared.code.Code.{Code}
use Rattle.world_model.specs.World.{Extent, lies_in, with_at}
use Rattle.core_model.specs.declared.trapped.Trapped.{Trapped}
use Rattle.core_model.specs.Contexts.{Context, with_context, without_context}

-- What all nodelets of a run share: the code, how many nodelets there are, the turns that each serves, the rules.
pub record Setup : Type 0 where
  pub code : Code
  pub nodelets : ℕ
  pub turns : ℕ
  pub rules : Rules

-- What a nodelet has counted of the steps that were done at it: moves by where they came from, and births, posts and
-- ends by where they went; the operations applied here; and the contexts sent away.
pub record Tallies : Type 0 where
  pub moves : ℕ → ℕ
  pub births : ℕ → ℕ
  pub posts : ℕ → ℕ
  pub dones : ℕ → ℕ
  pub applied : ℕ
  pub sent_contexts : ℕ

-- A nodelet: its words, and whether they are granted; the contexts that stand here, by name; the results of children
-- that no parent has joined; how many items of each strand are under way; the cursors of the views that it serves;
-- its pieces of output; the number of the next strand that is spawned here; the turns served; what it has counted;
-- main's value, once main has ended here; the first strand that trapped here; and the stamp of its last event.
pub record Node : Type 0 where
  pub cells : ℤ → ℤ
  pub granted : ℤ → Bool
  pub contexts : List Context
  pub results : Name → ℕ → ℕ → Option ℤ
  pub under_way : Name → ℕ
  pub cursors : ℕ → ℕ
  pub pieces : List (List ℕ)
  pub next_number : ℕ
  pub served : ℕ
  pub tallies : Tallies
  pub main_value : Option ℤ
  pub first_trap : Option Trapped
  pub stamp : ℕ

-- ---- the nodelet with one thing changed

-- A word is granted: always under the loose rules.
abbrev pub is_granted : Rules → Node → ℤ → Bool
is_granted Loose v address = true
is_granted Checked v address = v.granted address

-- The word at an address is another.
abbrev pub with_word : Node → ℤ → ℤ → Node
with_word v address word = record v { cells = λ a. if same_word a address then word else v.cells a }

-- Words are granted.
abbrev pub with_grant : Node → Extent → Node
with_grant v extent = record v { granted = λ a. v.granted a || lies_in a extent }

-- A context stands here, in place of the one of its name.
abbrev pub with_strand : Node → Context → Node
with_strand v x = record v { contexts = with_context x v.contexts }

-- The context of a name has left.
abbrev pub without_strand : Node → Name → Node
without_strand v name = record v { contexts = without_context name v.contexts }

-- So many more items of a strand are under way, or one less.
abbrev pub with_issued : Node → Name → ℕ → Node
with_issued v name more =
    record v { under_way = λ q. if same_name q name then v.under_way q + more else v.under_way q }

abbrev pub with_acknowledged : Node → Name → Node
with_acknowledged v name =
    record v { under_way = λ q. if same_name q name then v.under_way q - 1 else v.under_way q }

-- The result of the child with a ticket is known.
abbrev pub with_result : Node → Ticket → ℤ → Node
with_result v t result = record v {
  results = λ parent depth order.
      if same_name parent t.parent && (depth == t.depth && order == t.order) then Some result
      else v.results parent depth order;
}

-- The results of the children of an activation are joined, of which there are so many.
abbrev pub without_results : Node → Name → ℕ → ℕ → Node
without_results v name d count = record v {
  results = λ parent depth order.
      if same_name parent name && (depth == d && nat_lt order count) then None
      else v.results parent depth order;
}

-- One more turn is served.
abbrev pub with_turn : Node → Node
with_turn v = record v { served = suc v.served }

-- One more piece of output.
abbrev pub with_piece : Node → List ℕ → Node
with_piece v bytes = record v { pieces = v.pieces ++ bytes ∷ [] }

-- A strand trapped here; only the first is kept.
abbrev pub with_trap : Node → Trapped → Node
with_trap v trapped = record v { first_trap = option_or v.first_trap (Some trapped) }

-- ---- what is counted

-- One more at a number.
abbrev pub one_more : (ℕ → ℕ) → ℕ → ℕ → ℕ
one_more counts k = with_at counts k (suc (counts k))

abbrev pub with_tallies : Node → Tallies → Node
with_tallies v tallies = record v { tallies = tallies }

-- A strand came here from nodelet k in a step that was done here; not where it was here.
abbrev pub moved_from : ℕ → ℕ → Node → Node
moved_from here k v = if k == here then v else with_tallies v (record v.tallies { moves = one_more v.tallies.moves k })

-- A hinted child was born at nodelet k.
abbrev pub bore_at : ℕ → Node → Node
bore_at k v = with_tallies v (record v.tallies { births = one_more v.tallies.births k })

-- An operation was issued to nodelet k.
abbrev pub posted_to : ℕ → Node → Node
posted_to k v = with_tallies v (record v.tallies { posts = one_more v.tallies.posts k })

-- A strand ended whose parent's home is nodelet k.
abbrev pub ended_for : ℕ → Node → Node
ended_for k v = with_tallies v (record v.tallies { dones = one_more v.tallies.dones k })

-- An operation was applied here.
abbrev pub applied_here : Node → Node
applied_here v = with_tallies v (record v.tallies { applied = suc v.tallies.applied })

-- A context was sent to nodelet k, which is another.
abbrev pub sent_away : Node → Node
sent_away v = with_tallies v (record v.tallies { sent_contexts = suc v.tallies.sent_contexts })
