use Rattle.refine.proofs.laws.law_run.Goals as goal
use Rattle.core_model.proofs.Events.EventsAreRun.{events_are_run}
use Rattle.core_model.proofs.FirstTrap.FirstTraps.{first_traps_are_told as traps_law}
use Rattle.core_model.proofs.Traffic.CountsAreTraffic.{counts_are_traffic as counts_law}
use Rattle.refine.proofs.Events.{run_of_program, traps_of_program, traffic_of_program}

pub returns : goal.returns
returns c u program sound implements some most events played legal = record {
  run = run_of_program u program sound implements played (events_are_run u sound some most events played legal);
  traps = traps_of_program u program sound implements played (traps_law u sound some events played legal);
  traffic = traffic_of_program u program sound implements played (counts_law u sound some events played legal);
}
