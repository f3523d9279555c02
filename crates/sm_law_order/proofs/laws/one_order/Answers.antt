use Rattle.sm_law_order.proofs.SequenceLemmas.{one_order}
use Rattle.sm_law_order.proofs.laws.one_order.Goals as goal

pub returns : goal.returns
returns c = one_order
