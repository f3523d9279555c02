use Rattle.std.proofs.Common.{◌≢◌, ℕ, ◌<◌, ◌≤◌, ◌-◌, length, get_or}
use Rattle.sm_lists.proofs.places.passed.Given as goal

-- the number stands at none of the places so far
abbrev pub invariant-blocks-2 : goal.invariant-blocks-2
invariant-blocks-2 l = record {
  within : l.from ≤ length l.list;
  without : (k : ℕ) → k < l.from → get_or l.list k 0 ≢ l.number;
}

abbrev pub decreases-blocks-2 : goal.decreases-blocks-2
decreases-blocks-2 l = length l.list - l.from
