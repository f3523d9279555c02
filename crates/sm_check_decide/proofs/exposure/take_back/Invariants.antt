use Rattle.std.proofs.Common.{◌≡◌, ◌≢◌, ℕ, ◌<◌, length, slice_index}
use Rattle.sm_check_decide.specs.Exposure.{IsPassed}
use Rattle.sm_check_decide.proofs.exposure.take_back.Given as goal

abbrev pub invariant-loop-k : goal.invariant-loop-k
invariant-loop-k l = record {
  one_each : length l.passed ≡ length l.initial.passed;
  left : (p : ℕ) → IsPassed l.passed p → IsPassed l.initial.passed p × ((j : ℕ) → j < l.k → slice_index l.trail.items j ≢ p);
}
