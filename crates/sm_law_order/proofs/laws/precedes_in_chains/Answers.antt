use Rattle.sm_law_order.proofs.SequenceLemmas.{precedes_in_chains}
use Rattle.sm_law_order.proofs.laws.precedes_in_chains.Goals as goal

pub returns : goal.returns
returns c = precedes_in_chains
