use Rattle.sm_law_order.proofs.OrderLemmas.{closed_sets_are_down_sets}
use Rattle.sm_law_order.proofs.laws.closed_sets_are_down_sets.Goals as goal

pub returns : goal.returns
returns c = closed_sets_are_down_sets
