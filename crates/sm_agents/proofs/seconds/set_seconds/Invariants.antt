use Rattle.std.proofs.Common.{◌≡◌, ℕ, ◌<◌, pos, get_or, None, unwrap_or}
use Rattle.sm_agents.proofs.seconds.set_seconds.Given as goal

-- the first ones are set
abbrev pub invariant-loop-k : goal.invariant-loop-k
invariant-loop-k l = (j : ℕ) → j < l.k → get_or l.seconds j (pos 0) ≡ unwrap_or (get_or l.given j None) (pos 0)
