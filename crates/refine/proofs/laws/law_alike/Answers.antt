use Rattle.refine.proofs.laws.law_alike.Goals as goal
use Rattle.refine.proofs.Counts.{traffic-same}
use Rattle.refine.proofs.Runs.{runs-same, whole-same, ends-same}

pub returns : goal.returns
returns c u program sound implements told = record {
  worlds = runs-same u program sound implements told;
  transitions = whole-same u program sound implements told;
  ends = λ parts. ends-same u program sound implements told parts;
  traffic = traffic-same u program sound implements told;
}
