use Rattle.std.proofs.Common.{◌≡◌, ◌∙◌, arith, ap, sym, length, slice_index}
use Rattle.sm_market.specs.Lists.{entry, place_of}
use Rattle.sm_market.specs.Matching.{standing}
use Rattle.sm_theory.specs.Rotations.{proposer_at, reviewer_at, target_at}
use Rattle.sm_lists.proofs.PlaceLemmas.{entry-place_of}
use Rattle.sm_rotations.proofs.FootingLemmas.{proposer_in, target_in, footings_more, moves_to, rises_to}
use Rattle.sm_rotations.proofs.footings.put_footings.Goals as goal

pub bounds-places-p : goal.bounds-places-p
bounds-places-p c = omega (arith, proposer_in c.requires.market c.requires.made.matching c.requires.exposed c.loop-i.i c.loop-i-test.true, c.requires.places.one_each)

pub proposer_standing-requires-clause-in_range : goal.proposer_standing-requires-clause-in_range
proposer_standing-requires-clause-in_range c = proposer_in c.requires.market c.requires.made.matching c.requires.exposed c.loop-i.i c.loop-i-test.true

pub reviewer_standing-requires-clause-in_range : goal.reviewer_standing-requires-clause-in_range
reviewer_standing-requires-clause-in_range c =
    let target : reviewer_at c.args.pairs.now c.next_in.result ≡ target_at c.args.pairs.now c.loop-i.i = ap (reviewer_at c.args.pairs.now) c.next_in.ensures in
    omega (arith, target, target_in c.requires.market c.requires.made.matching c.requires.exposed c.loop-i.i c.loop-i-test.true)

pub cross-requires-clause-in_range : goal.cross-requires-clause-in_range
cross-requires-clause-in_range c = proposer_in c.requires.market c.requires.made.matching c.requires.exposed c.loop-i.i c.loop-i-test.true

pub cross-requires-clause-on_list : goal.cross-requires-clause-on_list
cross-requires-clause-on_list c =
    rw (c.requires.places.each c.loop-i.i c.loop-i-test.true) (c.requires.exposed.next c.loop-i.i c.loop-i-test.true).on_list

pub loop-i-preserved : goal.loop-i-preserved
loop-i-preserved c =
    let l = c.args.market.now in
    let h = c.requires.market in
    let f = c.requires.made.matching in
    let x = c.requires.exposed in
    let a = c.loop-i-test.true in
    let target : reviewer_at c.args.pairs.now c.next_in.result ≡ target_at c.args.pairs.now c.loop-i.i = ap (reviewer_at c.args.pairs.now) c.next_in.ensures in
    let place : slice_index c.args.places.now (proposer_at c.args.pairs.now c.loop-i.i) ≡ place_of c.args.market.now.proposers (proposer_at c.args.pairs.now c.loop-i.i) (target_at c.args.pairs.now c.loop-i.i) = c.requires.places.each c.loop-i.i a in
    let there : entry c.args.market.now.proposers (proposer_at c.args.pairs.now c.loop-i.i) (slice_index c.args.places.now (proposer_at c.args.pairs.now c.loop-i.i)) ≡ target_at c.args.pairs.now c.loop-i.i =
    ap (entry c.args.market.now.proposers (proposer_at c.args.pairs.now c.loop-i.i)) place ∙ entry-place_of c.args.market.now.proposers (proposer_at c.args.pairs.now c.loop-i.i) (target_at c.args.pairs.now c.loop-i.i) (x.next c.loop-i.i a).on_list in
    record {
      before_are = rw c.push_reserved.ensures.items
          (footings_more (record { proposer = c.proposer_standing.result; reviewer = c.reviewer_standing.result })
          c.proposer_standing.ensures.standing
          (c.reviewer_standing.ensures.standing ∙ ap (standing c.args.market.now.reviewers c.args.m.now.places.reviewers) target)
          c.loop-i.invariant.before_are);
      after_are = rw c.push_reserved-in-loop-i.ensures.items
          (footings_more (record { proposer = slice_index c.args.places.now (proposer_at c.args.pairs.now c.loop-i.i); reviewer = c.cross.result })
          (place ∙ sym (moves_to h f x c.loop-i.i a))
          (c.cross.ensures.place ∙ ap (λ r. place_of c.args.market.now.reviewers r (proposer_at c.args.pairs.now c.loop-i.i)) there ∙ sym (rises_to h f x c.loop-i.i a))
          c.loop-i.invariant.after_are);
      room_before = omega (arith, c.push_reserved.ensures.len, c.push_reserved.ensures.capacity, c.loop-i.invariant.room_before);
      room_after = omega (arith, c.push_reserved-in-loop-i.ensures.len, c.push_reserved-in-loop-i.ensures.capacity, c.loop-i.invariant.room_after);
    }

pub returns : goal.returns
returns c =
    let e : c.loop-i.i ≡ length c.args.pairs.now = omega (arith, c.loop-i.auto.i-end, c.loop-i-test.false) in
    record {
      was = c.args.m.now.places;
      matching = c.requires.made.matching;
      exposed = c.requires.exposed;
      before_are = rw e at c.loop-i.invariant.before_are;
      after_are = rw e at c.loop-i.invariant.after_are;
    }
