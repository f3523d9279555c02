use Rattle.sm_law_agree.proofs.WitnessLemmas.{three_by_three_is}
use Rattle.sm_law_agree.proofs.witnesses.three_by_three.Goals as goal

pub returns : goal.returns
returns c = three_by_three_is
