use Rattle.std.proofs.Common.{◌≡◌, ℕ, ◌<◌, ◌≤◌, length, slice_index}
use Rattle.sm_lister.proofs.bars.fill_between.Given as goal

abbrev pub invariant-loop-k : goal.invariant-loop-k
invariant-loop-k l = record {
  one_each : length l.numbers ≡ length l.initial.numbers;
  before : (k : ℕ) → k < l.from → slice_index l.numbers k ≡ slice_index l.initial.numbers k;
  done : (k : ℕ) → l.from ≤ k → k < l.k → slice_index l.numbers k ≡ l.number;
}
