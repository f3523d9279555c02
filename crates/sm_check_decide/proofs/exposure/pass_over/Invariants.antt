use Rattle.std.proofs.Common.{◌≡◌, ℕ, ◌<◌, ◌⊎◌, length}
use Rattle.sm_check_decide.specs.Exposure.{IsPassed}
use Rattle.sm_check_decide.proofs.exposure.pass_over.Given as goal

abbrev pub invariant-loop-p : goal.invariant-loop-p
invariant-loop-p l = record {
  one_each : length l.passed ≡ length l.initial.passed;
  more : (p : ℕ) → IsPassed l.passed p → IsPassed l.initial.passed p ⊎ (p < l.bound);
}
