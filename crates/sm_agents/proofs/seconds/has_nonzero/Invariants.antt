use Rattle.std.proofs.Common.{◌≡◌, ℕ, ◌<◌, pos, get_or}
use Rattle.sm_agents.proofs.seconds.has_nonzero.Given as goal

-- the numbers so far are 0
abbrev pub invariant-loop-k : goal.invariant-loop-k
invariant-loop-k l = (j : ℕ) → j < l.k → get_or l.seconds j (pos 0) ≡ pos 0
