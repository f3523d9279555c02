use Rattle.std.proofs.Common.{◌≡◌, map}
use Rattle.std.specs.List.{range_with_len}
use Rattle.sm_market.specs.Vectors.{rows_of}
use Rattle.sm_market.specs.Reduced.{reduced_row}
use Rattle.sm_accept.proofs.reduced.reviewers_between.Given as goal

abbrev pub invariant-loop-p : goal.invariant-loop-p
invariant-loop-p l = rows_of l.rows.items ≡ map (reduced_row l.market.proposers l.market.reviewers l.last.places.proposers l.first.places.reviewers) (range_with_len 0 l.p)
