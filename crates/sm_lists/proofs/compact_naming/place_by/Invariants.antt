use Rattle.std.proofs.Common.{ℕ, ◌<◌, ◌≤◌, ◌-◌, length}
use Rattle.sm_lists.specs.CompactNamings.{naming_at}
use Rattle.sm_lists.proofs.compact_naming.place_by.Given as goal

-- the namings in front are by lower numbers, and those behind by higher ones
abbrev pub invariant-loop-low : goal.invariant-loop-low
invariant-loop-low l = record {
  ordered : l.low ≤ l.high;
  within : l.high ≤ length l.namings;
  lower : (e : ℕ) → e < l.low → (naming_at l.namings e).by < l.by;
  higher : (e : ℕ) → l.high ≤ e → e < length l.namings → l.by < (naming_at l.namings e).by;
}

abbrev pub decreases-loop-low : goal.decreases-loop-low
decreases-loop-low l = l.high - l.low
