use Rattle.std.proofs.Common.{◌≡◌, take}
use Rattle.sm_lists.specs.Rows.{lists_in}
use Rattle.sm_agents.specs.Written.{lists_of}
use Rattle.sm_agents.specs.Vectors.{agents_of}
use Rattle.sm_agents.proofs.agents.lent_lists.Given as goal

abbrev pub invariant-loop-agent : goal.invariant-loop-agent
invariant-loop-agent l = lists_in l.lists.items ≡ lists_of (agents_of (take l.agent-index l.agents))
