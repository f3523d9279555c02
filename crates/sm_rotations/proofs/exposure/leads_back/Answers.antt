use Rattle.std.proofs.Common.{arith}
use Rattle.sm_rotations.proofs.FollowingLemmas.{in_none_at, in_none_after, walk_on, walk_back}
use Rattle.sm_rotations.proofs.exposure.leads_back.Goals as goal

pub returns-in_default-clause-none : goal.returns-in_default-clause-none
returns-in_default-clause-none c = λ _. in_none_at c.proposers.ensures.market c.requires.made.matching c.steps.invariant.walk c.in_default.ensures.step

pub returns-then-next-p-clause-found : goal.returns-then-next-p-clause-found
returns-then-next-p-clause-found c = λ _. rw c.in_ok-push.ensures.items
    (walk_back c.proposers.ensures.market c.requires.made.matching c.steps.invariant.walk c.in-Some.r c.in-Some.next c.in-Some.ensures.step (omega (arith, c.if-next-p.true)))

pub steps-preserved : goal.steps-preserved
steps-preserved c = record {
  walk = rw c.in_ok-push.ensures.items (walk_on c.proposers.ensures.market c.requires.made.matching c.steps.invariant.walk c.in-Some.r c.in-Some.next c.in-Some.ensures.step (omega (arith, c.if-next-p.false)));
  in_range = c.in-Some.ensures.in_range;
}

pub returns-clause-none : goal.returns-clause-none
returns-clause-none c = λ _. in_none_after c.proposers.ensures.market c.requires.made.matching c.steps.invariant.walk (omega (arith, c.steps-test.false, c.len.ensures, c.proposers.ensures.count))
