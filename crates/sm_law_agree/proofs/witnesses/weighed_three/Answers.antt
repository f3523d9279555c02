use Rattle.sm_law_agree.proofs.WeightWitness.{weighed_three_is}
use Rattle.sm_law_agree.proofs.witnesses.weighed_three.Goals as goal

pub returns : goal.returns
returns c = weighed_three_is
