use Rattle.merge_law.proofs.laws.law_stamps.Goals as goal
use Rattle.merge_law.proofs.Counted.{stamps_are_counted}
use Rattle.merge_law.proofs.PartsCounted.{parts_are_counted}

pub returns : goal.returns
returns g c = record {
  of_events = stamps_are_counted g.row.V.Denot g.row.B.Denot g.row.P.Denot;
  of_parts = parts_are_counted g.row.V.Denot g.row.B.Denot g.row.P.Denot;
}
