-- How many operations of each strand are under way.
use Rattle.std.specs.Prelude.{ℕ, unwrap_or}
use Rattle.std.specs.BTreeMap.{get}
use Rattle.word_ops.specs.declared.name.Name.{Name}
use Rattle.word_ops.specs.contracts.name.NameOrd.TheImpl.{ghosts as by}
use Rattle.ack_fence.specs.declared.Counts.{Counts}

-- how many operations of a strand are under way
abbrev pub count_of : Counts → Name → ℕ
count_of counts name = unwrap_or (get by.cmp counts.by_name name) 0
