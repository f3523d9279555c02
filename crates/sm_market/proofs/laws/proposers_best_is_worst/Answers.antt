use Rattle.sm_market.proofs.LawsProved.{proposers_best_is_worst}
use Rattle.sm_market.proofs.laws.proposers_best_is_worst.Goals as goal

pub returns : goal.returns
returns c = proposers_best_is_worst
