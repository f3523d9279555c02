use Rattle.std.proofs.Common.{◌≡◌, map}
use Rattle.std.specs.List.{range_with_len}
use Rattle.sm_market.specs.Vectors.{rows_of}
use Rattle.sm_market.specs.Reduced.{reduced_row}
use Rattle.sm_accept.proofs.reduced.proposers_between.Given as goal

abbrev pub invariant-loop-r : goal.invariant-loop-r
invariant-loop-r l = rows_of l.rows.items ≡ map (reduced_row l.market.reviewers l.market.proposers l.first.places.reviewers l.last.places.proposers) (range_with_len 0 l.r)
