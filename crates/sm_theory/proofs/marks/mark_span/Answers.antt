use Rattle.std.proofs.Common.{Some, arith}
use Rattle.sm_theory.specs.Marks.{marks_in, IsEntryMarked}
use Rattle.sm_theory.proofs.Chains.Marking.{span_more}
use Rattle.sm_theory.proofs.marks.mark_span.Goals as goal

pub loop-place-preserved : goal.loop-place-preserved
loop-place-preserved c =
    let marked : IsEntryMarked c.args.market.now c.proposer_at-p.result c.reviewer_cross.result (Some c.args.j) (marks_in c.loop-place.rows) (marks_in c.put.new.rows) = rw c.of-mark.ensures at c.in_ok-put.ensures in
    span_more (omega (arith, c.loop-place.auto.place)) c.proposer_at-p.ensures.named c.reviewer_cross.ensures.place c.loop-place.invariant marked
