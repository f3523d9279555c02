use Rattle.sm_seats.proofs.LawsProved.{few_seats_fit}
use Rattle.sm_seats.proofs.laws.few_seats_fit.Goals as goal

pub returns : goal.returns
returns c = few_seats_fit
