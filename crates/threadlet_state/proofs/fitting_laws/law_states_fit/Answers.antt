use Rattle.threadlet_state.proofs.FrameLaws.{state_as_frames}
use Rattle.threadlet_state.proofs.fitting_laws.law_states_fit.Goals as goal

pub returns : goal.returns
returns c = state_as_frames
