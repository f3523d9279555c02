use Rattle.sm_agents.specs.Checks.{AreGiven}
use Rattle.sm_agents.proofs.seconds.checked_seconds.Given as goal

-- the items so far are sound, and are given to their pairs
abbrev pub invariant-loop-n : goal.invariant-loop-n
invariant-loop-n l = AreGiven l.pairs l.seconds l.n l.given.items
