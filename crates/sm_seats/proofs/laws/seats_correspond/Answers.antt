use Rattle.sm_seats.proofs.LawsProved.{seats_correspond}
use Rattle.sm_seats.proofs.laws.seats_correspond.Goals as goal

pub returns : goal.returns
returns c = seats_correspond
