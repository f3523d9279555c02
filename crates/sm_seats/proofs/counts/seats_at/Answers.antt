use Rattle.std.proofs.Common.{arith}
use Rattle.sm_agents.specs.Written.{row}
use Rattle.sm_seats.specs.Mutual.{lists_back}
use Rattle.sm_seats.proofs.FilterLemmas.{length-filter-take}
use Rattle.sm_seats.proofs.counts.seats_at.Goals as goal

pub returns-then-count-capacity-clause-seats : goal.returns-then-count-capacity-clause-seats
returns-then-count-capacity-clause-seats c =
    let w = c.args.instance.now in
    let r = c.args.r in
    let le = length-filter-take (lists_back w.proposers r) (row w.reviewers r) c.loop-place.place in
    omega (arith, c.loop-place.invariant.counted.counted, le, c.if-count-capacity.true, c.capacity-capacity.ensures.capacity)
