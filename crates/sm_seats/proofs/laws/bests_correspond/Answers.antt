use Rattle.sm_seats.proofs.LawsProved.{bests_correspond}
use Rattle.sm_seats.proofs.laws.bests_correspond.Goals as goal

pub returns : goal.returns
returns c = bests_correspond
