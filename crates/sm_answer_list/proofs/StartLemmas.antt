-- What a lister of an instance is started with.
use Rattle.std.proofs.Common.{ℕ, List}
use Rattle.sm_lists.specs.EachOnce.{IsEachOnce}
use Rattle.sm_lists.proofs.OrderLemmas.{each_once_long}
use Rattle.sm_theory.specs.Vectors.{IsOrder}

-- an order that has each of so many numbers once is an order of them
pub each_once_is_order : {n : ℕ} {order : List ℕ} → IsEachOnce n order → IsOrder n order
each_once_is_order o = record { long = each_once_long o; in_range = o.in_range; each = o.each }
