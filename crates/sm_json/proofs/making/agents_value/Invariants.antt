use Rattle.std.proofs.Common.{◌≡◌, map, take}
use Rattle.serde_json.specs.View.{view}
use Rattle.sm_agents.specs.Vectors.{agent_of, agents_of}
use Rattle.sm_instance_lines.specs.Names.{said_agent}
use Rattle.sm_json.specs.Making.{agent_json}
use Rattle.sm_json.proofs.making.agents_value.Given as goal

-- the values so far
abbrev pub invariant-loop-agent : goal.invariant-loop-agent
invariant-loop-agent l = map view l.list.items ≡ map (λ a. agent_json l.has_capacity (said_agent (agents_of l.others) (agent_of a))) (take l.agent-index l.agents)
