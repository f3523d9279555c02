use Rattle.std.proofs.Common.{None, arith}
use Rattle.std.proofs.lemmas.List.{ext_get_or}
use Rattle.sm_check_decide.proofs.best.reviewer_places.Goals as goal

pub returns : goal.returns
returns c = ext_get_or None _ _
    (omega (arith, c.requires.made.matching.reviewers.one_each, c.loop-r.invariant.as_many, c.loop-r-test.false, c.reviewers-r-end.ensures.count))
    (λ r less. c.loop-r.invariant.same r (omega (arith, c.loop-r.invariant.as_many)))
