use Rattle.sm_market.proofs.LawsProved.{opposition_of_interests}
use Rattle.sm_market.proofs.laws.opposition_of_interests.Goals as goal

pub returns : goal.returns
returns c = opposition_of_interests
