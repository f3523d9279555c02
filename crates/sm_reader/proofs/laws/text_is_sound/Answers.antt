use Rattle.sm_reader.proofs.SoundTextLemmas.{text_is_sound}
use Rattle.sm_reader.proofs.laws.text_is_sound.Goals as goal

pub returns : goal.returns
returns c = text_is_sound
