use Rattle.merge_law.proofs.laws.law_merged_legal.Goals as goal
use Rattle.merge_law.proofs.Whole.{merged_is_legal, merged_keeps_parts}

pub returns : goal.returns
returns g c = record {
  legal = merged_is_legal g.row.V.Denot g.row.B.Denot g.row.P.Denot;
  parts = merged_keeps_parts g.row.V.Denot g.row.B.Denot g.row.P.Denot;
}
