use Rattle.sm_law_agree.proofs.ReducedAgree.{reduced_agrees}
use Rattle.sm_law_agree.proofs.laws.reduced_agrees.Goals as goal

pub returns : goal.returns
returns c = reduced_agrees
