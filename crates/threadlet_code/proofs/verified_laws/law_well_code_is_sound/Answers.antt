use Rattle.threadlet_code.proofs.verified_laws.law_well_code_is_sound.Goals as goal
use Rattle.threadlet_code.proofs.WellCode.{well_code_is_sound}

pub returns : goal.returns
returns c = well_code_is_sound
