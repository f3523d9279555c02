use Rattle.sm_seats.proofs.WitnessLemmas.{turning}
use Rattle.sm_seats.proofs.witnesses.turning_hospitals.Goals as goal

pub returns : goal.returns
returns c = turning
