-- What is written in an instance.
use Rattle.std.specs.Prelude.{ℕ, ◌<◌, ◌==◌, ◌&&◌, ℤ, pos, Bool, List, [], length, map, slice_index, slice_index_or}
use Rattle.std.specs.List.{position_or_len, range_with_len}
use Rattle.sm_lists.specs.Rows.{place_on}
use Rattle.sm_agents.specs.declared.kinds.Kind.{Kind}

-- an agent: its name, its capacity, the line of its declaration, and whom it lists, best first, by number
pub record AgentData : Type 0 where
  pub name : List ℕ
  pub capacity : ℕ
  pub line : ℕ
  pub entries : List ℕ

-- an instance with two sides: its agents, the weights that are given to pairs, the pairs that are forced or forbidden, each
-- with the proposer first, the second weight of each pair that has a weight, in the order of the weights, and the order of
-- the proposers in which rank vectors are compared
-- (Manlove 2013, sections 2.2 and 3.2; Gusfield and Irving 1989, sections 1.1 and 1.6)
pub record Written : Type 0 where
  pub kind : Kind
  pub proposers : List AgentData
  pub reviewers : List AgentData
  pub weights : List (ℕ × ℕ × ℤ)
  pub forced : List (ℕ × ℕ)
  pub forbidden : List (ℕ × ℕ)
  pub seconds : List ℤ
  pub order : List ℕ

-- an instance whose second weights are all 0, and whose proposers are compared in the order of their numbers
abbrev pub plain_written : Kind → List AgentData → List AgentData → List (ℕ × ℕ × ℤ) → List (ℕ × ℕ) → List (ℕ × ℕ) → Written
plain_written kind proposers reviewers weights forced forbidden = record {
  kind = kind;
  proposers = proposers;
  reviewers = reviewers;
  weights = weights;
  forced = forced;
  forbidden = forbidden;
  seconds = map (λ _. pos 0) weights;
  order = range_with_len 0 (length proposers);
}

-- what stands for an agent that isn't there
abbrev pub no_agent : AgentData
no_agent = record { name = []; capacity = 0; line = 0; entries = [] }

-- agent a of a side
abbrev pub agent_at : List AgentData → ℕ → AgentData
agent_at agents a = slice_index_or agents a no_agent

-- an agent's list, whom it names at a place, and the place of b on it, which is its length where b isn't on it
abbrev pub row : List AgentData → ℕ → List ℕ
row agents a = (agent_at agents a).entries

-- whom a's list names at place i
abbrev pub entry : List AgentData → ℕ → ℕ → ℕ
entry agents a i = slice_index (row agents a) i

-- the place of b on a's list, which is its length where b isn't on it
abbrev pub place_of : List AgentData → ℕ → ℕ → ℕ
place_of agents a b = place_on (row agents a) b

-- the lists of all agents
abbrev pub lists_of : List AgentData → List (List ℕ)
lists_of agents = map (λ agent. agent.entries) agents

-- how many places agent a has
abbrev pub capacity_of : List AgentData → ℕ → ℕ
capacity_of agents a = (agent_at agents a).capacity

-- the names of some agents
abbrev pub names_of : List AgentData → List (List ℕ)
names_of agents = map (λ agent. agent.name) agents

-- a proposer and a reviewer are acceptable to each other when each lists the other. Any other entry is inert: it keeps
-- its place, and is never matched.
pub record IsAcceptable (w : Written) (p r : ℕ) : Type 0 where
  pub proposer_lists : place_of w.proposers p r < length (row w.proposers p)
  pub reviewer_lists : place_of w.reviewers r p < length (row w.reviewers r)

-- the pair that a weight is given to
abbrev pub weighed : (ℕ × ℕ × ℤ) → (ℕ × ℕ)
weighed x = (x.0, x.1)

-- two pairs are one
abbrev pub is_same_pair : (ℕ × ℕ) → (ℕ × ℕ) → Bool
is_same_pair x y = x.0 == y.0 && x.1 == y.1

-- the number of a pair's weight, which is past the last where none is given to it
abbrev pub weight_number : List (ℕ × ℕ × ℤ) → ℕ → ℕ → ℕ
weight_number weights p r = position_or_len (is_same_pair (p, r)) (map weighed weights)

-- the weight that some weights give to a pair, 0 where they give none
abbrev pub weight_among : List (ℕ × ℕ × ℤ) → ℕ → ℕ → ℤ
weight_among weights p r = (slice_index_or weights (weight_number weights p r) (0, 0, pos 0)).2

-- the weight that is given to a pair, 0 where none is
abbrev pub given_weight : Written → ℕ → ℕ → ℤ
given_weight w p r = weight_among w.weights p r

-- the second weight of a pair, 0 where none is given
abbrev pub second_weight : Written → ℕ → ℕ → ℤ
second_weight w p r = slice_index_or w.seconds (weight_number w.weights p r) (pos 0)

-- for each of some weights, the second weight that others give to its pair
abbrev pub seconds_among : List (ℕ × ℕ × ℤ) → List (ℕ × ℕ × ℤ) → List ℤ
seconds_among weights seconds = map (λ pair. weight_among seconds pair.0 pair.1) (map weighed weights)
