use Rattle.threadlet_state.proofs.FrameLaws.{frames_as_state}
use Rattle.threadlet_state.proofs.fitting_laws.law_frames_fit.Goals as goal

pub returns : goal.returns
returns c = frames_as_state
