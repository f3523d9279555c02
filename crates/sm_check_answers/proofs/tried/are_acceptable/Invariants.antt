use Rattle.std.proofs.Common.{◌≡◌, ℕ, ◌<◌, Some}
use Rattle.sm_agents.specs.Written.{entry, IsAcceptable}
use Rattle.sm_instance.specs.Matching.{held}
use Rattle.sm_check_answers.proofs.tried.are_acceptable.Given as goal

-- the proposers so far
abbrev pub invariant-loop-p : goal.invariant-loop-p
invariant-loop-p l = (q i : ℕ) → q < l.p → held l.new.places.items q ≡ Some i → IsAcceptable l.instance q (entry l.instance.proposers q i)
