use Rattle.std.proofs.Common.{◌≡◌, ℕ, ◌<◌, Some, length}
use Rattle.sm_agents.specs.Written.{row}
use Rattle.sm_instance.specs.Matching.{held}
use Rattle.sm_instance.proofs.instance.Instance.is_assignment.Given as goal

-- the places so far are on their lists
abbrev pub invariant-loop-p : goal.invariant-loop-p
invariant-loop-p l = (q i : ℕ) → q < l.p → held l.a.places.items q ≡ Some i → i < length (row l.self.proposers q)
