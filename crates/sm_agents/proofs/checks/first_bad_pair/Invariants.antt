use Rattle.std.proofs.Common.{ℕ, ◌<◌}
use Rattle.sm_agents.specs.Sound.{IsPairOf}
use Rattle.sm_lists.specs.Pairs.{pair_at}
use Rattle.sm_agents.proofs.checks.first_bad_pair.Given as goal

-- the pairs so far are sound
abbrev pub invariant-loop-n : goal.invariant-loop-n
invariant-loop-n l = (k : ℕ) → k < l.n → IsPairOf l.proposers l.reviewers (pair_at l.pairs k)
