use Rattle.std.proofs.Common.{◌+◌, ◌≤◌, length}
use Rattle.std.specs.BinaryHeap.{IsHeap, heap_items}
use Rattle.sm_market.specs.Vectors.{rows_of}
use Rattle.sm_theory.specs.Chains.{stage}
use Rattle.sm_theory.specs.Values.{rotations_of}
use Rattle.sm_rotations.specs.Ordering.{later_first, AreWritten, AreRenumbered, AreLeft}
use Rattle.sm_rotations.proofs.ChainingLemmas.{places_below}
use Rattle.sm_rotations.proofs.order.ordered.Given as goal

abbrev pub invariant-steps : goal.invariant-steps
invariant-steps l = record {
  order : IsHeap later_first (heap_items l.ready);
  written : AreWritten l.market l.first.places (rotations_of l.fn.rotations) (rows_of l.followers) (rotations_of l.written.items) l.unmet (heap_items l.ready);
  renumbered : AreRenumbered l.market l.first.places (rotations_of l.fn.rotations) (rows_of l.followers)
      (stage l.market l.first.places (rotations_of l.written.items) (length (rotations_of l.written.items))) (rotations_of l.written.items) (rows_of l.noted) (rows_of l.needs.items);
  left : AreLeft l.market l.first.places (rotations_of l.fn.rotations)
      (stage l.market l.first.places (rotations_of l.written.items) (length (rotations_of l.written.items))) (rotations_of l.rotations);
  few : length (rotations_of l.written.items) + places_below l.market (stage l.market l.first.places (rotations_of l.written.items) (length (rotations_of l.written.items)))
      ≤ places_below l.market l.first.places;
}

abbrev pub decreases-steps : goal.decreases-steps
decreases-steps l = places_below l.market (stage l.market l.first.places (rotations_of l.written.items) (length (rotations_of l.written.items)))
