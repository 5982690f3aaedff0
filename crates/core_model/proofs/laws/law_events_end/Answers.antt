use Rattle.core_model.proofs.laws.law_events_end.Goals as goal
use Rattle.core_model.proofs.Rank.RankOfEvents.{events_lower_rank}

pub returns : goal.returns
returns c = events_lower_rank
