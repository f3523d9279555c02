use Rattle.std.proofs.Common.{◌≡◌, length, take}
use Rattle.std.specs.BinaryHeap.{IsHeap, heap_items}
use Rattle.sm_rotations.specs.Ordering.{later_first, IsReleased}
use Rattle.sm_rotations.proofs.order.release.Given as goal

abbrev pub invariant-loop-j : goal.invariant-loop-j
invariant-loop-j l = record {
  one_each : length l.unmet ≡ length l.initial.unmet;
  order : IsHeap later_first (heap_items l.ready);
  released : IsReleased l.leads (take l.j-index l.followers) l.initial.unmet (heap_items l.initial.ready) l.unmet (heap_items l.ready);
}
