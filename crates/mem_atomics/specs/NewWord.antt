-- The word that an operation or a fetch leaves in a cell.
use Rattle.std.specs.Prelude.{ℤ, if◌then◌else◌}
use Rattle.std.specs.Int.{w64, int_wrapping_add, int_bit_and, int_bit_or, int_bit_xor, int_min, int_max}
use Rattle.std.specs.Ordering.{int_eq}
use Rattle.mem_atomics.specs.declared.op.Op.{Op}
use Rattle.mem_atomics.specs.declared.op.Op.TheVariants as operation
use Rattle.mem_atomics.specs.declared.fetch_op.FetchOp.{FetchOp}
use Rattle.mem_atomics.specs.declared.fetch_op.FetchOp.TheVariants as fetching

-- The word after an operation with the word v on a cell that holds `old`.
abbrev pub applied : Op → ℤ → ℤ → ℤ
applied operation.Store old v = v
applied operation.Add old v = int_wrapping_add w64 old v
applied operation.And old v = int_bit_and w64 old v
applied operation.Or old v = int_bit_or w64 old v
applied operation.Xor old v = int_bit_xor w64 old v
applied operation.Min old v = int_min old v
applied operation.Max old v = int_max old v

-- The word after a fetch from a cell that holds `old`; the fetch itself answers `old`.
abbrev pub fetched : FetchOp → ℤ → ℤ
fetched (fetching.Add by) old = int_wrapping_add w64 old by
fetched (fetching.Swap to) old = to
fetched (fetching.Cas expected to) old = if int_eq old expected then to else old
