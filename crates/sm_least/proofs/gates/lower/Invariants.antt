use Rattle.std.proofs.Common.{ℕ, ◌<◌, ◌≤◌, ◌-◌, length, slice_index}
use Rattle.sm_least.proofs.gates.lower.Given as goal

abbrev pub invariant-halves : goal.invariant-halves
invariant-halves l = record {
  between : l.low ≤ l.high;
  few : l.high ≤ length l.levels;
  lower : (a : ℕ) → a < l.low → slice_index l.levels a < l.level;
  higher : (a : ℕ) → l.high ≤ a → a < length l.levels → l.level ≤ slice_index l.levels a;
}

abbrev pub decreases-halves : goal.decreases-halves
decreases-halves l = l.high - l.low
