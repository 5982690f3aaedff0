use Rattle.std.proofs.Common.{◌≡◌, ◌-◌}
use Rattle.std.specs.Prelude.{if◌then◌else◌}
use Rattle.word_ops.specs.Naming.{same_name}
use Rattle.word_ops.specs.declared.name.Name.{Name as StrandName}
use Rattle.ack_fence.specs.Counting.{count_of}
use Rattle.nodelet_core.proofs.keeping.withdraw_all.Given as goal

abbrev pub invariant-loop : goal.invariant-loop
invariant-loop l =
    (q : StrandName) → count_of l.counts q ≡ (if same_name q l.name then count_of l.fn.counts q - l.counter else count_of l.fn.counts q)
