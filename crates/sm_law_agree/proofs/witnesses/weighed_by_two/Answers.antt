use Rattle.sm_law_agree.proofs.SecondWitness.{weighed_by_two_is}
use Rattle.sm_law_agree.proofs.witnesses.weighed_by_two.Goals as goal

pub returns : goal.returns
returns c = weighed_by_two_is
