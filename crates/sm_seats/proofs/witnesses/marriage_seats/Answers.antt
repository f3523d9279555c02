use Rattle.sm_seats.proofs.WitnessLemmas.{marriage_seats}
use Rattle.sm_seats.proofs.witnesses.marriage_seats.Goals as goal

pub returns : goal.returns
returns c = marriage_seats
