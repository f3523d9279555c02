use Rattle.std.proofs.Common.{◌≡◌, ℕ, ◌<◌, take, map}
use Rattle.sm_agents.specs.Written.{weighed}
use Rattle.sm_agents.specs.Sound.{IsSoundItem}
use Rattle.sm_agents.proofs.checks.checked_weights.Given as goal

-- the weights so far are sound, and these are their pairs
abbrev pub invariant-loop-n : goal.invariant-loop-n
invariant-loop-n l = record {
  told : l.pairs ≡ take l.n (map weighed l.weights);
  sound : (k : ℕ) → k < l.n → IsSoundItem l.proposers l.reviewers l.weights (map weighed l.weights) k;
}
