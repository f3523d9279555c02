use Rattle.std.proofs.Common.{◌≡◌, ℕ, ◌<◌}
use Rattle.sm_market.specs.Matching.{held}
use Rattle.sm_accept.proofs.accept.copy_places.Given as goal

abbrev pub invariant-loop-r : goal.invariant-loop-r
invariant-loop-r l = (s : ℕ) → s < l.r → held l.places s ≡ held l.m.places.reviewers s
