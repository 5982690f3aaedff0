-- The recorded results of children.
use Rattle.std.specs.Prelude.{◌≡◌, ℕ, ◌<◌, nat_lt, Bool, ◌&&◌, ◌==◌, if◌then◌else◌, Option, Some, None, IsSome, ℤ}
use Rattle.word_ops.specs.Naming.{same_name}
use Rattle.word_ops.specs.declared.name.Name.{Name}
use Rattle.word_ops.specs.declared.ticket.Ticket.{Ticket}
use Rattle.spawn_tree.specs.code.Records.{result_in, SameIn, AddsOne, ForgetsUnder as ForgetsIn}
use Rattle.spawn_tree.specs.declared.Joins.{Joins}

-- the recorded result of the child that a parent spawned as number `order` at a depth
abbrev pub result_of : Joins → Name → ℕ → ℕ → Option ℤ
result_of joins = result_in joins.results

-- there is a result of each child under a count
abbrev pub AllRecorded : Joins → Name → ℕ → ℕ → Type 0
AllRecorded joins parent depth count = (order : ℕ) → order < count → IsSome (result_of joins parent depth order)

-- the later records are the earlier ones
abbrev pub SameRecords : Joins → Joins → Type 0
SameRecords earlier later = SameIn (result_of earlier) (result_of later)

-- the later records have one more, of the child with this ticket
abbrev pub RecordsOneMore : Joins → Ticket → ℤ → Joins → Type 0
RecordsOneMore earlier t value later = AddsOne (result_of earlier) t value (result_of later)

-- the later records are the earlier ones but for the children that a parent spawned at a depth, with numbers under a count
abbrev pub ForgetsUnder : Joins → Name → ℕ → ℕ → Joins → Type 0
ForgetsUnder earlier parent depth count later = ForgetsIn (result_of earlier) parent depth count (result_of later)
