-- Which of a text's faults is the first: the one that stands first, and of those at one place the one that is
-- listed first.
use Rattle.std.specs.Prelude.{ℕ, nat_lt, nat_le, ◌==◌, Bool, true, false, ◌&&◌, ◌||◌, if◌then◌else◌, List, [], ◌∷◌, Option, Some, None}
use Rattle.word_ops.specs.declared.place.Pos.{Pos}
use Rattle.cilk_ast.specs.declared.fault.FaultKind.{FaultKind}
use Rattle.cilk_ast.specs.declared.fault.FaultKind.TheVariants as fault
use Rattle.cilk_ast.specs.declared.fault.TextFault.{TextFault}

-- How many kinds are listed before a kind of fault.
abbrev pub rank_of : FaultKind → ℕ
rank_of fault.BadByte = 0
rank_of fault.BadLiteral = 1
rank_of fault.OpenComment = 2
rank_of fault.OpenText = 3
rank_of fault.TooDeep = 4
rank_of fault.Unexpected = 5
rank_of fault.Unknown = 6
rank_of fault.Twice = 7
rank_of fault.WrongType = 8
rank_of fault.WrongCount = 9
rank_of fault.NotAPlace = 10
rank_of fault.BadFormat = 11
rank_of fault.AssignsOuter = 12
rank_of fault.Escapes = 13
rank_of fault.TooMany = 14
rank_of fault.NoMain = 15

-- A place stands before another one.
abbrev pub is_before : Pos → Pos → Bool
is_before p q = nat_lt p.line q.line || (p.line == q.line && nat_lt p.column q.column)

-- Two places are the same.
abbrev pub same_place : Pos → Pos → Bool
same_place p q = p.line == q.line && p.column == q.column

-- Of two faults the one comes before the other, or is the same.
abbrev pub comes_first : TextFault → TextFault → Bool
comes_first f g = is_before f.pos g.pos || (same_place f.pos g.pos && nat_le (rank_of f.kind) (rank_of g.kind))

-- The first of two faults, either of which there may be none.
abbrev pub earlier : Option TextFault → Option TextFault → Option TextFault
earlier None g = g
earlier (Some f) None = Some f
earlier (Some f) (Some g) = if comes_first f g then Some f else Some g

-- The first of all faults, if there is one.
abbrev pub first_fault : List TextFault → Option TextFault
first_fault [] = None
first_fault (f ∷ faults) = earlier (Some f) (first_fault faults)

-- One broken rule: the fault of a kind at a place.
abbrev pub broken : FaultKind → Pos → List TextFault
broken kind at = record { pos = at; kind = kind } ∷ []

-- A rule that is broken where a test says so.
abbrev pub broken_if : Bool → FaultKind → Pos → List TextFault
broken_if true kind at = broken kind at
broken_if false kind at = []
