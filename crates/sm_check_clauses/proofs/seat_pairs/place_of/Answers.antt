use Rattle.std.proofs.Common.{sym, ◌∙◌, arith}
use Rattle.sm_market.specs.Lists.{row}
use Rattle.sm_lists.proofs.PlaceLemmas.{place_on_is, place_on-none}
use Rattle.sm_check_clauses.proofs.seat_pairs.place_of.Goals as goal

pub returns-then-reviewer_at-seat : goal.returns-then-reviewer_at-seat
returns-then-reviewer_at-seat c =
    let count = c.proposer_len-place-end.ensures in
    let here = place_on_is (row c.args.market.now.proposers c.args.p) c.args.seat c.loop-place.place (omega arith) (sym c.reviewer_at.ensures.named ∙ c.if-reviewer_at-seat.true) c.loop-place.invariant in
    (sym here, omega arith)

pub returns : goal.returns
returns c =
    let count = c.proposer_len-place-end.ensures in
    place_on-none (row c.args.market.now.proposers c.args.p) c.args.seat (λ i on. c.loop-place.invariant i (omega arith))
