use Rattle.sm_market.proofs.WitnessMarkets.{two_by_two_is}
use Rattle.sm_market.proofs.witnesses.two_by_two.Goals as goal

pub returns : goal.returns
returns c = two_by_two_is
