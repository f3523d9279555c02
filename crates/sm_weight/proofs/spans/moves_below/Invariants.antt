use Rattle.std.proofs.Common.{ℕ, ◌-◌, ◌<◌, ◌≤◌, length}
use Rattle.sm_weight.specs.Spans.{level_to}
use Rattle.sm_weight.proofs.spans.moves_below.Given as goal

abbrev pub invariant-halves : goal.invariant-halves
invariant-halves l = record {
  order : l.low ≤ l.high;
  inside : l.high ≤ length l.moves;
  lower : (a : ℕ) → a < l.low → level_to l.levels l.moves a < l.level;
  higher : (a : ℕ) → l.high ≤ a → a < length l.moves → l.level ≤ level_to l.levels l.moves a;
}

abbrev pub decreases-halves : goal.decreases-halves
decreases-halves l = l.high - l.low
