use Rattle.sm_law_agree.proofs.WeightAgree.{weight_agrees}
use Rattle.sm_law_agree.proofs.laws.weight_agrees.Goals as goal

pub returns : goal.returns
returns c = weight_agrees
