use Rattle.sm_law_round.proofs.WitnessLemmas.{weighed_is_written}
use Rattle.sm_law_round.proofs.witnesses.weighed_is_written.Goals as goal

pub returns : goal.returns
returns c = weighed_is_written
