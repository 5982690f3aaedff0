use Rattle.core_model.proofs.run_laws.law_contexts_travel.Goals as goal
use Rattle.core_model.proofs.Packets.TravellingContexts.{contexts_travel}

pub returns : goal.returns
returns c = contexts_travel
