-- What an instance says, where it can be said in JSON.
use Rattle.std.specs.Prelude.{◌≡◌, ◌≤◌, Bool, true, false, All}
use Rattle.std.specs.Int.RustNames.{unsigned_abs}
use Rattle.sm_text.specs.Limits.{most_capacity, most_weight}
use Rattle.sm_text.specs.Name.{is_name}
use Rattle.sm_agents.specs.Named.{SaidAgent, SaidPair, SaidWeight, Said, names_first}

-- an agent of a name, who lists names, and has one place or a capacity
pub record IsSaidAgent (has_capacity : Bool) (agent : SaidAgent) : Type 0 where
  pub name : is_name agent.name ≡ true
  pub entries : All (λ name. is_name name ≡ true) agent.entries
  pub capacity : agent.capacity ≤ most_capacity
  pub one : has_capacity ≡ false → agent.capacity ≡ 1

-- a pair of names, on no line
pub record IsSaidPair (pair : SaidPair) : Type 0 where
  pub proposer : is_name pair.proposer ≡ true
  pub reviewer : is_name pair.reviewer ≡ true
  pub line : pair.line ≡ 0

-- weights within their limit
pub record IsSaidWeight (x : SaidWeight) : Type 0 where
  pub pair : IsSaidPair x.pair
  pub size : unsigned_abs x.weight ≤ most_weight
  pub second_size : unsigned_abs x.second ≤ most_weight

-- an instance of such parts
pub record IsSaid (has_capacities : Bool) (said : Said) : Type 0 where
  pub proposers : All (IsSaidAgent false) said.proposers
  pub reviewers : All (IsSaidAgent has_capacities) said.reviewers
  pub weights : All IsSaidWeight said.weights
  pub forced : All IsSaidPair said.forced
  pub forbidden : All IsSaidPair said.forbidden
  pub order : All (λ name. is_name name ≡ true) (names_first said.order)
