use Rattle.refine.proofs.laws.law_census.Goals as goal
use Rattle.std.proofs.Common.{sym, ◌∙◌}
use Rattle.merge_law.specs.Merge.{steps_of}
use Rattle.core_model.specs.Core.{setting_of}
use Rattle.core_model.specs.Laws.{IsRunOfEvents}
use Rattle.core_model.proofs.Events.EventsAreRun.{events_are_run}
use Rattle.core_model.proofs.Census.LiveStrands.{census_is_live}
use Rattle.core_model.proofs.Census.NamesOnce.{census_names_once}
use Rattle.refine.proofs.Runs.{runs-same}
use Rattle.refine.proofs.Events.{census_of_program}

pub returns : goal.returns
returns c u program sound implements some most events played legal =
    let r : IsRunOfEvents u (setting_of u) played = events_are_run u sound some most events played legal in
    let l = census_is_live u sound some events played legal in
    record {
      world = r.world;
      leads_to = sym (runs-same u program sound implements (steps_of played.told)) ∙ r.leads_to;
      lives = census_of_program u program sound implements played r l.0 l.1 l.2;
      once = census_names_once u sound some events played legal;
      pending = r.pending;
    }
