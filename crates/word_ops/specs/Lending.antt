-- What comes back of an item that a list lends.
use Rattle.std.specs.Prelude.{ℕ, List, slice_set}
use Rattle.std.specs.Borrow.{Lends, MutBor, Fml, RattleType}
use Rattle.word_ops.specs.contracts.list.List.{the_row}

-- the list ends with item i set to the last value behind r
abbrev pub LendsItem : (T : RattleType) → MutBor (List T.Denot) → ℕ → MutBor T.Denot → Fml
LendsItem T s i r = Lends (the_row T) T s r (slice_set s.now i)
