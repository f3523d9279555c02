use Rattle.std.proofs.Common.{◌≡◌, ℕ, ◌<◌, false}
use Rattle.std.specs.Str.{bytes_eq}
use Rattle.sm_agents.specs.Written.{agent_at}
use Rattle.sm_agents.specs.Vectors.{agents_of}
use Rattle.sm_agents.proofs.name_tables.find_named.Given as goal

-- none of the agents so far has the name
abbrev pub invariant-loop-a : goal.invariant-loop-a
invariant-loop-a l = (b : ℕ) → b < l.a → bytes_eq l.name (agent_at (agents_of l.agents) b).name ≡ false
