use Rattle.sm_law_order.proofs.OrderLemmas.{precedes_in_closed_sets}
use Rattle.sm_law_order.proofs.laws.precedes_in_closed_sets.Goals as goal

pub returns : goal.returns
returns c = precedes_in_closed_sets
