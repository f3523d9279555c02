use Rattle.sm_law_agree.proofs.ChosenAgree.{join_agrees}
use Rattle.sm_law_agree.proofs.laws.join_agrees.Goals as goal

pub returns : goal.returns
returns c = join_agrees
