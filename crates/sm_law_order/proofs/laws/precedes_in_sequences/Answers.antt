use Rattle.sm_law_order.proofs.SequenceLemmas.{precedes_in_sequences}
use Rattle.sm_law_order.proofs.laws.precedes_in_sequences.Goals as goal

pub returns : goal.returns
returns c = precedes_in_sequences
