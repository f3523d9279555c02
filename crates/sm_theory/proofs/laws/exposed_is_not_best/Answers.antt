use Rattle.sm_theory.proofs.Chains.Best.{exposed_is_not_best}
use Rattle.sm_theory.proofs.laws.exposed_is_not_best.Goals as goal

pub returns : goal.returns
returns c = exposed_is_not_best
