use Rattle.sm_rotations.proofs.HeapLemmas.{first_more, first_past}
use Rattle.sm_rotations.proofs.order.ready_at_first.Goals.{then-unmet-k-eq0+in_ok-add_ready, else-unmet-k-eq0}
use Rattle.sm_rotations.proofs.order.ready_at_first.Goals as goal

pub loop-k-preserved : goal.loop-k-preserved
loop-k-preserved c = elim c.if-unmet-k-eq0.branch [
  | then-unmet-k-eq0+in_ok-add_ready w ↦ record {
    order = rw w.ready-is w.in_ok-add_ready.ensures.order;
    ready = rw w.ready-is (first_more c.loop-k-test.true w.if-unmet-k-eq0.true c.loop-k.invariant.ready w.in_ok-add_ready.ensures.added);
  }
  | else-unmet-k-eq0 w ↦ record {
    order = rw w.ready-is c.loop-k.invariant.order;
    ready = rw w.ready-is (first_past w.if-unmet-k-eq0.false c.loop-k.invariant.ready);
  }
]
