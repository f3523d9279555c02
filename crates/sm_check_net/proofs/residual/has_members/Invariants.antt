use Rattle.std.proofs.Common.{ℕ, ◌+◌, ◌<◌, ◌↔◌, Contains}
use Rattle.sm_theory.specs.ClosedSets.{IsMember}
use Rattle.sm_check_net.proofs.residual.has_members.Given as goal

abbrev pub invariant-loop-k : goal.invariant-loop-k
invariant-loop-k l = (j : ℕ) → j < l.k → IsMember l.set j ↔ Contains l.trail.items (j + 1)
