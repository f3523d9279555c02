-- What lines without a fault say together.
use Rattle.std.specs.Prelude.{◌≡◌, ◌≢◌, ◌≤◌, Bool, true, false, length, All, AllPairs}
use Rattle.std.specs.Int.RustNames.{unsigned_abs}
use Rattle.sm_text.specs.Limits.{most_agents, most_entries, most_capacity, most_weight}
use Rattle.sm_text.specs.Name.{is_name}
use Rattle.sm_agents.specs.Sound.{is_single}
use Rattle.sm_agents.specs.declared.kinds.Kind.{Kind}
use Rattle.sm_agents.specs.Named.{SaidAgent, SaidWeight, Said, names_of, names_first, all_entries, is_given_to}
use Rattle.sm_keys.specs.Tables.{has_repeated}

-- an agent has a name, a capacity within the limit, which is 1 where every agent of its side has a single place, and a list
-- on which no name stands twice
pub record IsRightAgent (single : Bool) (a : SaidAgent) : Type 0 where
  pub name : is_name a.name ≡ true
  pub capacity : a.capacity ≤ most_capacity
  pub one : single ≡ true → a.capacity ≡ 1
  pub differ : has_repeated a.entries ≡ false

-- every agent is right, no two of a side have the same name, and they keep within the limits; each weight has a size within
-- its limit, as has each second weight, and no two are of the same pair; the order names no proposer twice
pub record IsRight (kind : Kind) (said : Said) : Type 0 where
  pub proposers : All (IsRightAgent true) said.proposers
  pub reviewers : All (IsRightAgent (is_single kind)) said.reviewers
  pub proposers_differ : AllPairs ◌≢◌ (names_of said.proposers)
  pub reviewers_differ : AllPairs ◌≢◌ (names_of said.reviewers)
  pub proposers_fit : length said.proposers ≤ most_agents
  pub reviewers_fit : length said.reviewers ≤ most_agents
  pub entries_fit : all_entries said ≤ most_entries
  pub sizes : All (λ (w : SaidWeight). unsigned_abs w.weight ≤ most_weight) said.weights
  pub second_sizes : All (λ (w : SaidWeight). unsigned_abs w.second ≤ most_weight) said.weights
  pub weights_differ : AllPairs (λ (a b : SaidWeight). is_given_to b.pair.proposer b.pair.reviewer a ≡ false) said.weights
  pub order_differs : has_repeated (names_first said.order) ≡ false
