-- Events of verified code are a run of the code's own meaning, and meet nothing that is missing.
use Rattle.core_model.proofs.Events.EventsAreRun.{events_are_run}
use Rattle.core_model.proofs.FirstTrap.FirstTraps.{first_traps_are_told}
use Rattle.core_model.proofs.Traffic.CountsAreTraffic.{counts_are_traffic}
use Rattle.core_model.proofs.Invariant.NothingMissing.{events_miss_nothing}
use Rattle.core_model.proofs.NotStuck.NeverStuck.{never_stuck}
use Rattle.refine.specs.CodeLaws.{EventsAreRunOfCode, CodeNeverStuck}

pub events_are_run_of_code : EventsAreRunOfCode
events_are_run_of_code u sound some most events played legal = record {
  run = events_are_run u sound some most events played legal;
  traps = first_traps_are_told u sound some events played legal;
  traffic = counts_are_traffic u sound some events played legal;
  nothing_missing = events_miss_nothing u sound some events played legal;
}

pub code_never_stuck : CodeNeverStuck
code_never_stuck = never_stuck
