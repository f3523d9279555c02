use Rattle.sm_market.specs.Lists.{row}
use Rattle.sm_check_decide.proofs.ReducedLemmas.{IsSameFrom, stays}
use Rattle.sm_check_decide.proofs.reduced.is_reduced_reviewer_list.Given as goal

abbrev pub invariant-loop-place : goal.invariant-loop-place
invariant-loop-place l = IsSameFrom (stays l.market.reviewers l.market.proposers l.first.places.reviewers l.last.places.proposers l.r) (row l.market.reviewers l.r) l.list l.place l.next
