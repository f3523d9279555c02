use Rattle.std.proofs.Common.{◌≢◌, ℕ, ◌<◌}
use Rattle.sm_market.specs.Lists.{entry}
use Rattle.sm_check_clauses.proofs.seat_pairs.place_of.Given as goal

abbrev pub invariant-loop-place : goal.invariant-loop-place
invariant-loop-place l = (j : ℕ) → j < l.place → entry l.market.proposers l.p j ≢ l.seat
