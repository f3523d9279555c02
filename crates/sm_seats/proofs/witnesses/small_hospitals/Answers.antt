use Rattle.sm_seats.proofs.WitnessLemmas.{small_hospitals_seats}
use Rattle.sm_seats.proofs.witnesses.small_hospitals.Goals as goal

pub returns : goal.returns
returns c = small_hospitals_seats
