use Rattle.std.proofs.Common.{◌≡◌, ◌&&◌, take}
use Rattle.std.specs.List.{filter}
use Rattle.sm_market.specs.Lists.{row}
use Rattle.sm_market.specs.Reduced.{is_no_worse}
use Rattle.sm_accept.proofs.reduced.add_reviewers.Given as goal

abbrev pub invariant-loop-place : goal.invariant-loop-place
invariant-loop-place l = l.row.items ≡ filter (λ r. is_no_worse l.market.proposers l.last.places.proposers l.p r && is_no_worse l.market.reviewers l.first.places.reviewers r l.p) (take l.place (row l.market.proposers l.p))
