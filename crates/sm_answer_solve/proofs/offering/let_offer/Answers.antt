use Rattle.std.proofs.Common.{◌+◌, ◌∙◌, arith, inl, inr}
use Rattle.sm_answer_solve.specs.Offering.{begun_till}
use Rattle.sm_answer_solve.proofs.OfferLemmas.{one_begins, one_done}
use Rattle.sm_answer_solve.proofs.offering.let_offer.Goals as goal

pub let_travel-requires-clause-way : goal.let_travel-requires-clause-way
let_travel-requires-clause-way c = record {
  begun = begun_till c.args.instance.now c.args.r (c.places.begun + 1);
  offering = one_begins c.requires.instance c.places.invariant.offering (omega (arith, c.places-test.true, c.capacity-capacity.ensures.capacity)) (omega (arith, c.if-nexts-r.true, c.reviewer_len-len.ensures.length));
}

pub places-preserved : goal.places-preserved
places-preserved c = record {
  same = c.let_travel.ensures.same ∙ c.places.invariant.same;
  begun_few = omega (arith, c.places-test.true);
  offering = c.in_ok-let_travel.ensures.way (begun_till c.args.instance.now c.args.r (c.places.begun + 1))
      (one_begins c.requires.instance c.places.invariant.offering (omega (arith, c.places-test.true, c.capacity-capacity.ensures.capacity)) (omega (arith, c.if-nexts-r.true, c.reviewer_len-len.ensures.length)));
}

pub returns-else-nexts-r-clause-way : goal.returns-else-nexts-r-clause-way
returns-else-nexts-r-clause-way c = one_done c.requires.instance c.args.r c.places.begun c.places.invariant.offering (inr (omega (arith, c.if-nexts-r.false, c.reviewer_len-len.ensures.length)))

pub returns-after-places-clause-way : goal.returns-after-places-clause-way
returns-after-places-clause-way c = one_done c.requires.instance c.args.r c.places.begun c.places.invariant.offering (inl (omega (arith, c.places-test.false, c.capacity-capacity.ensures.capacity)))
