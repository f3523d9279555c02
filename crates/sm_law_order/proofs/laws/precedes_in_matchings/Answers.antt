use Rattle.sm_law_order.proofs.OrderLemmas.{precedes_in_matchings}
use Rattle.sm_law_order.proofs.laws.precedes_in_matchings.Goals as goal

pub returns : goal.returns
returns c = precedes_in_matchings
