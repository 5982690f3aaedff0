-- Every list of events that is legal from the start is a run of the code's meaning.
use Rattle.world_model.specs.Run.{start}
use Rattle.core_model.specs.Core.{start_core, setting_of}
use Rattle.core_model.specs.Laws.{EventsAreRun}
use Rattle.core_model.proofs.Events.Play.{KeptBy, play_kept}
use Rattle.core_model.proofs.Invariant.Start.{starts}
use Rattle.core_model.proofs.Invariant.Agreement.{contexts_are_of, pending_travels}

pub events_are_run : EventsAreRun
events_are_run u sound some most events played legal = record {
  world = kept.world;
  leads_to = kept.leads;
  shares = kept.holds.shares;
  contexts = contexts_are_of u sound played.core kept.world kept.holds;
  pending = pending_travels u sound played.core kept.world kept.holds;
  main_value = kept.holds.main_value;
}
  where
    kept : KeptBy u sound some (start (setting_of u)) played
    kept = play_kept u sound some events (start_core u) (start (setting_of u)) played (starts u sound some) legal
