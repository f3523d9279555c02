use Rattle.std.proofs.Common.{arith}
use Rattle.sm_answer_solve.proofs.OfferLemmas.{none_offered, all_done}
use Rattle.sm_answer_solve.proofs.offering.let_all_offer.Goals as goal

pub loop-r-init : goal.loop-r-init
loop-r-init c = record {
  way = none_offered c.reviewer_count-r-end.ensures.instance _ _ c.requires.begun c.requires.none;
  search = c.new-search.ensures;
}

pub returns : goal.returns
returns c = all_done c.reviewer_count-r-end.ensures.instance c.loop-r.invariant.way (omega (arith, c.loop-r-test.false, c.reviewer_count-r-end.ensures.count))
