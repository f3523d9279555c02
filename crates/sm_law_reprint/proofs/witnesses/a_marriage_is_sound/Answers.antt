use Rattle.sm_law_reprint.proofs.WitnessLemmas.{marriage_sound}
use Rattle.sm_law_reprint.proofs.witnesses.a_marriage_is_sound.Goals as goal

pub returns : goal.returns
returns c = marriage_sound
