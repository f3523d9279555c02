use Rattle.sm_json.proofs.WitnessLemmas.{marriage_read, hospitals_read, roommates_read, nothing_read}
use Rattle.sm_json.proofs.witnesses.small_values_are_read.Goals as goal

pub returns : goal.returns
returns c = record { marriage = marriage_read; hospitals = hospitals_read; roommates = roommates_read; nothing = nothing_read }
