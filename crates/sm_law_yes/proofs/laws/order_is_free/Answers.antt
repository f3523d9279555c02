use Rattle.sm_law_yes.proofs.OrderFree.{order_is_free}
use Rattle.sm_law_yes.proofs.laws.order_is_free.Goals as goal

pub returns : goal.returns
returns c = order_is_free
