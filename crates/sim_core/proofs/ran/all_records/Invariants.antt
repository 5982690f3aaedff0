use Rattle.std.proofs.Common.{◌≡◌}
use Rattle.std.specs.Prelude.{slice_get}
use Rattle.sim_core.specs.code.Recorded.{parts_in, pieces_in}
use Rattle.sim_core.proofs.ran.all_records.Given as goal

abbrev pub invariant-loop-nodelet : goal.invariant-loop-nodelet
invariant-loop-nodelet l = record {
  parts : l.parts ≡ parts_in l.yielded;
  out : l.out ≡ pieces_in (slice_get l.yielded 0);
}
