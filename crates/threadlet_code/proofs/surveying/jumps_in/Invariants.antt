use Rattle.std.proofs.Common.{◌≡◌, ℕ, ◌<◌, length, take}
use Rattle.std.specs.Prelude.{false, slice_index_or}
use Rattle.std.specs.List.{list_any}
use Rattle.threadlet_code.specs.Naming.{jump_of, is_named}
use Rattle.threadlet_code.proofs.surveying.jumps_in.Given as goal

abbrev pub invariant-loop-instr : goal.invariant-loop-instr
invariant-loop-instr l = record {
  size : length l.jumped ≡ length l.f.body;
  each : (place : ℕ) → place < length l.f.body →
      slice_index_or l.jumped place false ≡ list_any (λ instr. is_named place (jump_of instr)) (take l.instr-index l.f.body);
}
