use Rattle.std.specs.BinaryHeap.{IsHeap, heap_items}
use Rattle.sm_rotations.specs.Ordering.{later_first, AreReadyAtFirst}
use Rattle.sm_rotations.proofs.order.ready_at_first.Given as goal

abbrev pub invariant-loop-k : goal.invariant-loop-k
invariant-loop-k l = record {
  order : IsHeap later_first (heap_items l.ready);
  ready : AreReadyAtFirst l.leads l.unmet l.k (heap_items l.ready);
}
