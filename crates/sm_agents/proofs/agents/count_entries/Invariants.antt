use Rattle.std.proofs.Common.{◌≡◌, take}
use Rattle.sm_agents.specs.Sound.{entries_of}
use Rattle.sm_agents.specs.Vectors.{agents_of}
use Rattle.sm_agents.proofs.agents.count_entries.Given as goal

-- how many entries the agents so far have
abbrev pub invariant-loop-agent : goal.invariant-loop-agent
invariant-loop-agent l = l.count ≡ entries_of (take l.agent-index (agents_of l.agents))
