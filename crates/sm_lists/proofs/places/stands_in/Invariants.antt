use Rattle.std.proofs.Common.{◌≡◌, ◌≢◌, ℕ, ◌<◌, ◌≤◌, false, get_or}
use Rattle.sm_lists.proofs.places.stands_in.Given as goal

-- while it isn't found, it stands at none of the places so far
abbrev pub invariant-loop-place : goal.invariant-loop-place
invariant-loop-place l = l.found ≡ false → (k : ℕ) → l.from ≤ k → k < l.place → get_or l.list k 0 ≢ l.number
