use Rattle.core_model.proofs.laws.law_counts_are_traffic.Goals as goal
use Rattle.core_model.proofs.Traffic.CountsAreTraffic.{counts_are_traffic}

pub returns : goal.returns
returns c = counts_are_traffic
