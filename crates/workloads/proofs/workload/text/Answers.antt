use Rattle.workloads.proofs.ShortTexts.{begun_short}
use Rattle.workloads.proofs.workload.text.Goals as goal

pub returns-clause-short : goal.returns-clause-short
returns-clause-short c = begun_short c.args.number c.loop-rest.text _ c.requires c.loop-rest.invariant
