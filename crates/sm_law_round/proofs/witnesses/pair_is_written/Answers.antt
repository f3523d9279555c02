use Rattle.sm_law_round.proofs.WitnessLemmas.{pair_is_written}
use Rattle.sm_law_round.proofs.witnesses.pair_is_written.Goals as goal

pub returns : goal.returns
returns c = pair_is_written
