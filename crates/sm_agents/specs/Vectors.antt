-- Agents and lists that are held in vectors, as plain data.
use Rattle.std.specs.Prelude.{ℕ, List, map, ℤ}
use Rattle.sm_agents.specs.Written.{AgentData, Written, plain_written}
use Rattle.sm_agents.specs.declared.kinds.Kind.{Kind}
use Rattle.sm_agents.specs.declared.agents.Agent.{Agent}
use Rattle.sm_agents.specs.declared.parts.Parts.{Parts}

-- an agent as plain data
abbrev pub agent_of : Agent → AgentData
agent_of agent = record { name = agent.name.items; capacity = agent.capacity; line = agent.line; entries = agent.entries.items }

-- some agents as plain data
abbrev pub agents_of : List Agent → List AgentData
agents_of agents = map agent_of agents

-- an instance of these parts, without second weights and in the order of the proposers' numbers
abbrev pub written_from : Kind → List Agent → List Agent → List (ℕ × ℕ × ℤ) → List (ℕ × ℕ) → List (ℕ × ℕ) → Written
written_from kind proposers reviewers weights forced forbidden =
    plain_written kind (agents_of proposers) (agents_of reviewers) weights forced forbidden

-- an instance of these parts, second weights and order
abbrev pub written_with : Kind → List Agent → List Agent → List (ℕ × ℕ × ℤ) → List (ℕ × ℕ) → List (ℕ × ℕ) → List ℤ → List ℕ → Written
written_with kind proposers reviewers weights forced forbidden seconds order = record {
  kind = kind;
  proposers = agents_of proposers;
  reviewers = agents_of reviewers;
  weights = weights;
  forced = forced;
  forbidden = forbidden;
  seconds = seconds;
  order = order;
}

-- the instance that some parts make
abbrev pub written_in : Parts → Written
written_in parts = written_with parts.kind parts.proposers.items parts.reviewers.items parts.weights.items parts.forced.items parts.forbidden.items
    parts.seconds.items parts.order.items
