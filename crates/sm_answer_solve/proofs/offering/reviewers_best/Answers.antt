use Rattle.std.proofs.Common.{sym, subst}
use Rattle.sm_instance.specs.Stable.{IsReviewersBest}
use Rattle.sm_answer_solve.proofs.OfferLemmas.{offers_end}
use Rattle.sm_answer_solve.proofs.offering.reviewers_best.Goals as goal

pub returns : goal.returns
returns c = subst (IsReviewersBest c.args.instance.now) (sym c.in_ok-ends.ensures) (offers_end c.reviewer_count.ensures.instance c.in_ok-let_all_offer.ensures)
