use Rattle.sm_law_order.proofs.OrderLemmas.{precedes_is_order}
use Rattle.sm_law_order.proofs.laws.precedes_is_order.Goals as goal

pub returns : goal.returns
returns c = precedes_is_order
