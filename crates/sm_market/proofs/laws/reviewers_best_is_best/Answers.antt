use Rattle.sm_market.proofs.LawsProved.{reviewers_best_is_best}
use Rattle.sm_market.proofs.laws.reviewers_best_is_best.Goals as goal

pub returns : goal.returns
returns c = reviewers_best_is_best
