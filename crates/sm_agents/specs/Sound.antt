-- What an instance has to meet: its limits, its agents, its entries and its pairs.
use Rattle.std.specs.Prelude.{◌≡◌, ◌≢◌, ℕ, ◌+◌, ◌<◌, ◌≤◌, Bool, true, false, IsTrue, List, [], length, map, ◌++◌, slice_index_or, ℤ, pos}
use Rattle.std.specs.List.{sum_by, All}
use Rattle.std.specs.Int.RustNames.{unsigned_abs}
use Rattle.sm_lists.specs.Pairs.{pair_at}
use Rattle.sm_lists.specs.EachOnce.{IsEachOnce}
use Rattle.sm_text.specs.Limits.{most_agents, most_entries, most_capacity, most_weight}
use Rattle.sm_text.specs.Name.{is_name}
use Rattle.sm_agents.specs.Written.{AgentData, Written, agent_at, row, entry, weighed}
use Rattle.sm_agents.specs.declared.kinds.Kind.{Kind}
use Rattle.sm_agents.specs.declared.kinds.Kind.TheVariants.{Marriage, Hospitals, Roommates}

-- how many entries the lists of some agents have together
abbrev pub entries_of : List AgentData → ℕ
entries_of agents = sum_by (λ agent. length agent.entries) agents

-- the agents on each side, and the entries on all lists, are few enough
pub record IsWithinLimits (left right : List AgentData) : Type 0 where
  pub proposers : length left ≤ most_agents
  pub reviewers : length right ≤ most_agents
  pub entries : entries_of left + entries_of right ≤ most_entries

-- an agent has a name, which no earlier agent of its side has, and a capacity of at most 4,096, which is 1 where every
-- agent of the side has a single place
pub record IsSoundAgent (agents : List AgentData) (single : Bool) (a : ℕ) : Type 0 where
  pub name : IsTrue (is_name (agent_at agents a).name)
  pub fresh : (b : ℕ) → b < a → (agent_at agents b).name ≢ (agent_at agents a).name
  pub capacity : (agent_at agents a).capacity ≤ most_capacity
  pub one : IsTrue single → (agent_at agents a).capacity ≡ 1

-- all agents of a side are sound
pub record AreSoundAgents (agents : List AgentData) (single : Bool) : Type 0 where
  pub sound : (a : ℕ) → a < length agents → IsSoundAgent agents single a

-- an entry names an agent of the other side, of so many, that isn't named earlier on its list
pub record IsSoundEntry (agents : List AgentData) (others : ℕ) (a i : ℕ) : Type 0 where
  pub in_range : entry agents a i < others
  pub fresh : (j : ℕ) → j < i → entry agents a j ≢ entry agents a i

-- all entries of a side are sound
pub record AreSoundEntries (agents : List AgentData) (others : ℕ) : Type 0 where
  pub sound : (a i : ℕ) → i < length (row agents a) → IsSoundEntry agents others a i

-- a pair of one of so many proposers and one of so many reviewers
pub record IsPairOf (proposers reviewers : ℕ) (pair : ℕ × ℕ) : Type 0 where
  pub proposer : pair.0 < proposers
  pub reviewer : pair.1 < reviewers

-- the pairs that are weighed, forced and forbidden, in this order
abbrev pub items_of : List (ℕ × ℕ × ℤ) → List (ℕ × ℕ) → List (ℕ × ℕ) → List (ℕ × ℕ)
items_of weights forced forbidden = map weighed weights ++ forced ++ forbidden

-- an item names two agents; a weight is of a size of at most 1,000,000,000, and of a pair that isn't weighed earlier
pub record IsSoundItem (proposers reviewers : ℕ) (weights : List (ℕ × ℕ × ℤ)) (items : List (ℕ × ℕ)) (n : ℕ) : Type 0 where
  pub pair : IsPairOf proposers reviewers (pair_at items n)
  pub size : n < length weights → unsigned_abs (slice_index_or weights n (0, 0, pos 0)).2 ≤ most_weight
  pub fresh : n < length weights → (k : ℕ) → k < n → pair_at items k ≢ pair_at items n

-- whether every reviewer has a single place
abbrev pub is_single : Kind → Bool
is_single Marriage = true
is_single Hospitals = false
is_single Roommates = true

-- an instance with two sides: a marriage, or hospitals and residents
pub record IsInstance (w : Written) : Type 0 where
  pub two_sided : w.kind ≢ Roommates
  pub limits : IsWithinLimits w.proposers w.reviewers
  pub proposers : AreSoundAgents w.proposers true
  pub reviewers : AreSoundAgents w.reviewers (is_single w.kind)
  pub proposer_entries : AreSoundEntries w.proposers (length w.reviewers)
  pub reviewer_entries : AreSoundEntries w.reviewers (length w.proposers)
  pub items : let items = items_of w.weights w.forced w.forbidden in (n : ℕ) → n < length items → IsSoundItem (length w.proposers) (length w.reviewers) w.weights items n
  pub seconds_each : length w.seconds ≡ length w.weights
  pub seconds_small : All (λ s. unsigned_abs s ≤ most_weight) w.seconds
  pub order : IsEachOnce (length w.proposers) w.order

-- an instance of roommates: persons who list each other
pub record ArePersons (persons : List AgentData) : Type 0 where
  pub limits : IsWithinLimits persons []
  pub agents : AreSoundAgents persons true
  pub entries : AreSoundEntries persons (length persons)
