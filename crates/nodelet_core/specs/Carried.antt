-- What the code carries of contexts and packets.
use Rattle.threadlet_code.specs.declared.code.Code.{Code}
use Rattle.threadlet_state.specs.declared.context.Context as carried
use Rattle.threadlet_state.specs.declared.packet.Body as sent
use Rattle.threadlet_state.specs.declared.packet.Body.TheVariants as by
use Rattle.threadlet_state.specs.Activations.{state_of}
use Rattle.world_model.specs.World.{Operation, Grant}
use Rattle.core_model.specs.Contexts.{Context, Body, Arrival, Issued, Ack, Returned}

-- A context as the code carries it, with its frames as the machine's state.
abbrev pub context_in : Code → carried.Context → Context
context_in code x = record {
  name = x.name;
  home = x.home;
  place = x.place;
  ticket = x.ticket;
  state = state_of code x.frames;
  late = x.late;
}

-- What a packet carries.
abbrev pub body_in : Code → sent.Body → Body
body_in code (by.Ctx x) = Arrival (context_in code x)
body_in code (by.Op name op address word at) = Issued name (Operation op address word at)
body_in code (by.Ack name late) = Ack name late
body_in code (by.Done ticket result) = Returned ticket result
body_in code (by.Grant name first count) = Issued name (Grant (record { first = first; count = count }))
