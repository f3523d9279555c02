use Rattle.std.proofs.Common.{◌≡◌, ◌<◌, length, sym, ap, ◌∙◌, arith}
use Rattle.sm_market.specs.Lists.{row, entry, place_of}
use Rattle.sm_market.specs.Reduced.{is_no_worse}
use Rattle.sm_lists.proofs.PlaceLemmas.{entry-place_of}
use Rattle.sm_market.proofs.PlaceLemmas.{place_of-entry}
use Rattle.sm_accept.proofs.ReducedLemmas.{filter_step, and_comm, front_kept}
use Rattle.sm_accept.proofs.reduced.add_proposers.Goals as goal

pub loop-place-preserved : goal.loop-place-preserved
loop-place-preserved c =
    let rows = c.args.market.now.proposers in
    let listed : place_of rows c.proposer_at-p.result c.args.r < length (row rows c.proposer_at-p.result) = rw (c.proposer_at-p.ensures.named, sym c.reviewer_cross.ensures.place) c.reviewer_cross.ensures.on_list in
    let is_cross : c.reviewer_cross.result ≡ place_of rows c.proposer_at-p.result c.args.r = rw c.proposer_at-p.ensures.named c.reviewer_cross.ensures.place in
    let there : entry rows c.proposer_at-p.result c.reviewer_cross.result ≡ c.args.r = ap (entry rows c.proposer_at-p.result) is_cross ∙ entry-place_of rows c.proposer_at-p.result c.args.r listed in
    filter_step _ _ c.loop-place.place c.proposer_at-p.result c.is_between-between.result _ _ (omega (arith, c.loop-place-test.true, c.front_to-place-end.ensures.fits, c.reviewer_len.ensures))
    c.proposer_at-p.ensures.named
    ((rw there at c.is_between-between.ensures) ∙ and_comm (is_no_worse rows c.args.last.now.places.proposers c.proposer_at-p.result c.args.r) (is_no_worse c.args.market.now.reviewers c.args.first.now.places.reviewers c.args.r c.proposer_at-p.result))
    c.loop-place.invariant c.in_ok-push_if.ensures

pub returns : goal.returns
returns c =
    let m = c.args.market.now in
    let end = c.front_to-place-end in
    front_kept m.reviewers m.proposers c.args.first.now.places.reviewers c.args.last.now.places.proposers c.args.r end.result c.loop-place.place c.loop-place.row.items
    (place_of-entry c.requires.market.reviewers c.args.r)
    (rw c.reviewer_place.ensures at end.ensures.front)
    (omega (arith, end.ensures.fits, c.reviewer_len.ensures))
    (omega (arith, c.loop-place-test.false, c.loop-place.auto.place-end))
    c.loop-place.invariant
