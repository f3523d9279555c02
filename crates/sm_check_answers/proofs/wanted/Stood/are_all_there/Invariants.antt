use Rattle.std.proofs.Common.{◌≡◌, ℕ, ◌<◌, get_or, true, false, IsSome}
use Rattle.sm_instance.specs.Matching.{held}
use Rattle.sm_check_answers.proofs.wanted.Stood.are_all_there.Given as goal

-- the proposers so far stand, where they are matched
abbrev pub invariant-loop-p : goal.invariant-loop-p
invariant-loop-p l = (q : ℕ) → q < l.p → IsSome (held l.wanted q) → get_or l.self.stood.items q false ≡ true
