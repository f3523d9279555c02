use Rattle.sm_law_order.proofs.OrderLemmas.{precedes_where_exposed}
use Rattle.sm_law_order.proofs.laws.precedes_where_exposed.Goals as goal

pub returns : goal.returns
returns c = precedes_where_exposed
