use Rattle.std.proofs.lemmas.Bool.{false≢true}
use Rattle.sm_lists.proofs.OrderLemmas.{each_once_long}
use Rattle.sm_lists.proofs.order.is_each_once.Goals as goal

pub returns-then-order-count : goal.returns-then-order-count
returns-then-order-count c = ((λ t. absurd (false≢true t)), λ o. absurd (c.if-order-count.true (each_once_long o)))
