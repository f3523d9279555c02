use Rattle.sm_law_agree.proofs.RegretAgree.{regret_agrees}
use Rattle.sm_law_agree.proofs.laws.regret_agrees.Goals as goal

pub returns : goal.returns
returns c = regret_agrees
