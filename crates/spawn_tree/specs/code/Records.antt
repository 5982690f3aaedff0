-- Results by parent, depth and order.
use Rattle.std.specs.Prelude.{◌≡◌, ℕ, nat_lt, Bool, ◌&&◌, ◌==◌, if◌then◌else◌, Option, Some, None, ℤ}
use Rattle.std.specs.BTreeMap.{BTreeMap, get}
use Rattle.word_ops.specs.Naming.{same_name}
use Rattle.word_ops.specs.declared.name.Name.{Name}
use Rattle.word_ops.specs.declared.ticket.Ticket.{Ticket}
use Rattle.spawn_tree.specs.declared.Child.{Child}
use Rattle.spawn_tree.specs.contracts.ChildOrd.TheImpl.{ghosts as children}

-- results by parent, depth and order
abbrev pub Results : Type 0
Results = Name → ℕ → ℕ → Option ℤ

-- the results in a map
abbrev pub result_in : BTreeMap Child ℤ → Results
result_in results parent depth order = get children.cmp results (record { parent = parent; depth = depth; order = order })

-- the later results are the earlier ones
abbrev pub SameIn : Results → Results → Type 0
SameIn earlier later = (p : Name) (d o : ℕ) → later p d o ≡ earlier p d o

-- a ticket is that of this child
abbrev pub is_child_of : Ticket → Name → ℕ → ℕ → Bool
is_child_of t parent depth order = same_name parent t.parent && depth == t.depth && order == t.order

-- the later results have one more, of the child with this ticket
abbrev pub AddsOne : Results → Ticket → ℤ → Results → Type 0
AddsOne earlier t value later = (p : Name) (d o : ℕ) → later p d o ≡ (if is_child_of t p d o then Some value else earlier p d o)

-- a child is one of those that a parent spawned at a depth, with a number under a count
abbrev pub is_child_under : Name → ℕ → ℕ → Name → ℕ → ℕ → Bool
is_child_under parent depth count p d o = same_name p parent && d == depth && nat_lt o count

-- the later results are the earlier ones but for those children
abbrev pub ForgetsUnder : Results → Name → ℕ → ℕ → Results → Type 0
ForgetsUnder earlier parent depth count later =
    (p : Name) (d o : ℕ) → later p d o ≡ (if is_child_under parent depth count p d o then None else earlier p d o)
