use Rattle.std.proofs.Common.{◌≡◌, ℕ, ◌<◌, length}
use Rattle.sm_market.specs.Matching.{held}
use Rattle.sm_check_decide.proofs.best.reviewer_places.Given as goal

abbrev pub invariant-loop-r : goal.invariant-loop-r
invariant-loop-r l = record {
  as_many : length l.places.items ≡ l.r;
  same : (s : ℕ) → s < l.r → held l.places.items s ≡ held l.m.places.reviewers s;
}
