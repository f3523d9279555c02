use Rattle.sm_market.proofs.WitnessMarkets.{two_for_one_is}
use Rattle.sm_market.proofs.witnesses.two_for_one.Goals as goal

pub returns : goal.returns
returns c = two_for_one_is
