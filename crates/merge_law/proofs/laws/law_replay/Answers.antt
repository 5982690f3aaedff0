use Rattle.merge_law.proofs.laws.law_replay.Goals as goal
use Rattle.merge_law.proofs.Growing.{replays_go_on}

pub returns : goal.returns
returns g c = replays_go_on g.row.V.Denot g.row.B.Denot g.row.P.Denot
