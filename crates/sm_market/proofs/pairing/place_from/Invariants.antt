use Rattle.std.proofs.Common.{◌≢◌, ℕ, ◌<◌, ◌≤◌, ◌-◌, length}
use Rattle.sm_market.specs.Lists.{row, entry, place_of}
use Rattle.sm_market.proofs.pairing.place_from.Given as goal

abbrev pub invariant-loop-place : goal.invariant-loop-place
invariant-loop-place l = (k : ℕ) → l.from ≤ k → k < l.place → entry l.market.proposers l.p k ≢ l.r

-- it isn't passed
abbrev pub invariant-earlier : goal.invariant-earlier
invariant-earlier l = l.place ≤ place_of l.market.proposers l.p l.r

abbrev pub decreases-earlier : goal.decreases-earlier
decreases-earlier l = length (row l.market.proposers l.p) - l.place
