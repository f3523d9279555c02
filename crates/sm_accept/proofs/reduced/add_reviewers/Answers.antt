use Rattle.std.proofs.Common.{arith}
use Rattle.sm_market.proofs.PlaceLemmas.{place_of-entry}
use Rattle.sm_accept.proofs.ReducedLemmas.{front_kept}
use Rattle.sm_accept.proofs.reduced.add_reviewers.Goals as goal

pub returns : goal.returns
returns c =
    let m = c.args.market.now in
    let end = c.front_to-place-end in
    front_kept m.proposers m.reviewers c.args.last.now.places.proposers c.args.first.now.places.reviewers c.args.p end.result c.loop-place.place c.loop-place.row.items
    (place_of-entry c.requires.market.proposers c.args.p)
    (rw c.place.ensures at end.ensures.front)
    (omega (arith, end.ensures.fits, c.proposer_len.ensures))
    (omega (arith, c.loop-place-test.false, c.loop-place.auto.place-end))
    c.loop-place.invariant
