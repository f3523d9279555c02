use Rattle.sm_market.specs.Lists.{row}
use Rattle.sm_check_decide.proofs.ReducedLemmas.{IsSameFrom, stays}
use Rattle.sm_check_decide.proofs.reduced.is_reduced_proposer_list.Given as goal

abbrev pub invariant-loop-place : goal.invariant-loop-place
invariant-loop-place l = IsSameFrom (stays l.market.proposers l.market.reviewers l.last.places.proposers l.first.places.reviewers l.p) (row l.market.proposers l.p) l.list l.place l.next
