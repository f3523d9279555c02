use Rattle.std.proofs.Common.{◌≡◌, ◌&&◌, take}
use Rattle.std.specs.List.{filter}
use Rattle.sm_market.specs.Lists.{row}
use Rattle.sm_market.specs.Reduced.{is_no_worse}
use Rattle.sm_accept.proofs.reduced.add_proposers.Given as goal

abbrev pub invariant-loop-place : goal.invariant-loop-place
invariant-loop-place l = l.row.items ≡ filter (λ p. is_no_worse l.market.reviewers l.first.places.reviewers l.r p && is_no_worse l.market.proposers l.last.places.proposers p l.r) (take l.place (row l.market.reviewers l.r))
