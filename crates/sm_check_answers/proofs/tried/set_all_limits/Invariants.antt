use Rattle.std.proofs.Common.{◌≡◌, ℕ, ◌<◌, length, slice_index}
use Rattle.sm_instance.specs.Stable.{IsGainLimit}
use Rattle.sm_check_answers.proofs.tried.set_all_limits.Given as goal

-- the limits so far
abbrev pub invariant-loop-r : goal.invariant-loop-r
invariant-loop-r l = record {
  one_each : length l.limits ≡ length l.instance.reviewers;
  of : (s : ℕ) → s < l.r → IsGainLimit l.instance l.a.places.items s (slice_index l.limits s);
}
