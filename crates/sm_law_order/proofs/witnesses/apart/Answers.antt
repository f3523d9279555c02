use Rattle.sm_law_order.proofs.WitnessLemmas.{apart_is}
use Rattle.sm_law_order.proofs.witnesses.apart.Goals as goal

pub returns : goal.returns
returns c = apart_is
