use Rattle.sm_law_agree.proofs.WitnessLemmas.{one_pair_is}
use Rattle.sm_law_agree.proofs.witnesses.one_pair.Goals as goal

pub returns : goal.returns
returns c = one_pair_is
