-- An instance by names: the name behind each number. Agents keep the lines of their declarations; pairs stand on no line.
use Rattle.std.specs.Prelude.{ℕ, if◌then◌else◌, nat_eq, List, [], length, map, Option, Some, None, ℤ}
use Rattle.std.specs.List.{range_with_len, zip}
use Rattle.std.specs.Cmp.Lexicographic.{pointwise}
use Rattle.sm_agents.specs.Written.{AgentData, Written, agent_at}
use Rattle.sm_agents.specs.Named.{SaidAgent, SaidPair, SaidWeight, SaidOrder, Said, nothing}
use Rattle.sm_instance.specs.declared.inputs.Input.{Input}
use Rattle.sm_instance.specs.declared.inputs.Input.TheVariants.{Two, Room}

-- the name of agent a
abbrev pub name_of : List AgentData → ℕ → List ℕ
name_of agents a = (agent_at agents a).name

-- an agent that lists agents of others
abbrev pub said_agent : List AgentData → AgentData → SaidAgent
said_agent others agent = record { name = agent.name; capacity = agent.capacity; line = agent.line; entries = map (name_of others) agent.entries }

-- a pair of a proposer and a reviewer, and one with a weight
abbrev pub said_pair : (lefts rights : List AgentData) → ℕ × ℕ → SaidPair
said_pair lefts rights pair = record { proposer = name_of lefts pair.0; reviewer = name_of rights pair.1; line = 0 }

-- a pair of two names, with a weight and a second weight
abbrev pub said_weight : (lefts rights : List AgentData) → (ℕ × ℕ × ℤ) × ℤ → SaidWeight
said_weight lefts rights x = record { pair = said_pair lefts rights (x.0.0, x.0.1); weight = x.0.2; second = x.1 }

-- the names of all proposers in their order, where it isn't that of their numbers
abbrev pub said_order : Written → Option SaidOrder
said_order w = if pointwise nat_eq w.order (range_with_len 0 (length w.proposers)) then None else Some (record { names = map (name_of w.proposers) w.order; line = 0 })

-- what an instance says
abbrev pub said_of : Input → Said
said_of (Two w) = record {
  proposers = map (said_agent w.reviewers) w.proposers;
  reviewers = map (said_agent w.proposers) w.reviewers;
  weights = map (said_weight w.proposers w.reviewers) (zip w.weights w.seconds);
  forced = map (said_pair w.proposers w.reviewers) w.forced;
  forbidden = map (said_pair w.proposers w.reviewers) w.forbidden;
  masters = [];
  order = said_order w;
}
said_of (Room persons) = record nothing { proposers = map (said_agent persons) persons }
