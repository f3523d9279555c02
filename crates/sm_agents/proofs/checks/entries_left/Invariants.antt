use Rattle.std.proofs.Common.{◌≡◌, ◌+◌, take}
use Rattle.sm_agents.specs.Sound.{entries_of}
use Rattle.sm_agents.specs.Vectors.{agents_of}
use Rattle.sm_agents.proofs.checks.entries_left.Given as goal

-- what the agents so far leave
abbrev pub invariant-loop-agent : goal.invariant-loop-agent
invariant-loop-agent l = l.left + entries_of (take l.agent-index (agents_of l.agents)) ≡ l.most
