-- What the checks of one side, and of one list of pairs, find.
use Rattle.std.specs.Prelude.{◌≡◌, ℕ, ◌+◌, ◌<◌, Bool, true, List, Option, Some, None, length, map, slice_index, slice_index_or, ℤ, pos}
use Rattle.sm_agents.specs.Written.{AgentData, row, entry, weighed}
use Rattle.sm_agents.specs.Sound.{IsSoundEntry, AreSoundEntries, AreSoundAgents, IsPairOf}
use Rattle.sm_lists.specs.Pairs.{pair_at}
use Rattle.sm_agents.specs.Faults.{IsFirstBadAgent, IsFirstBadEntry, IsFirstBadItem, IsSecondOf}
use Rattle.sm_agents.specs.declared.kinds.Side.{Side}
use Rattle.sm_agents.specs.declared.kinds.Side.TheVariants.{Proposers, Reviewers}
use Rattle.sm_agents.specs.declared.faults.InstanceFault.{InstanceFault}
use Rattle.sm_agents.specs.declared.faults.InstanceFault.TheVariants.{TooMany, BadAgent, BadEntry, BadPair, BadOrder, OutOfMemory}

-- the first agent of a side that isn't sound
abbrev pub IsAgentFault : Side → List AgentData → Bool → InstanceFault → Type 0
IsAgentFault side agents single TooMany = ⊥
IsAgentFault side agents single (BadAgent s a) = (s ≡ side) × IsFirstBadAgent agents single a
IsAgentFault side agents single (BadEntry s a i) = ⊥
IsAgentFault side agents single (BadPair n) = ⊥
IsAgentFault side agents single BadOrder = ⊥
IsAgentFault side agents single OutOfMemory = Unit {0}

-- the first entry of a side that isn't sound
abbrev pub IsEntryFault : Side → List AgentData → ℕ → InstanceFault → Type 0
IsEntryFault side agents others TooMany = ⊥
IsEntryFault side agents others (BadAgent s a) = ⊥
IsEntryFault side agents others (BadEntry s a i) = (s ≡ side) × IsFirstBadEntry agents others a i
IsEntryFault side agents others (BadPair n) = ⊥
IsEntryFault side agents others BadOrder = ⊥
IsEntryFault side agents others OutOfMemory = Unit {0}

-- the first entry of a's list that isn't sound
pub record IsFirstBadPlace (agents : List AgentData) (others a i : ℕ) : Type 0 where
  pub there : i < length (row agents a)
  pub bad : ¬ IsSoundEntry agents others a i
  pub earlier : (j : ℕ) → j < i → IsSoundEntry agents others a j

-- b stands among the first i places of a's list
pub record IsAmong (agents : List AgentData) (a i b : ℕ) : Type 0 where
  pub at : ℕ
  pub before : at < i
  pub names : entry agents a at ≡ b

-- the stamps of a's turn: on those whom a's list names at its first i places, and on nobody else; no stamp is of a later
-- turn
pub record AreStamped (agents : List AgentData) (a i : ℕ) (met : List ℕ) : Type 0 where
  pub latest : (b : ℕ) → slice_index met b < a + 2
  pub named : (b : ℕ) → slice_index met b ≡ a + 1 → IsAmong agents a i b
  pub all : (j : ℕ) → j < i → slice_index met (entry agents a j) ≡ a + 1

-- the first pair that isn't one of so many
pub record IsFirstBadPair (proposers reviewers : ℕ) (pairs : List (ℕ × ℕ)) (n : ℕ) : Type 0 where
  pub there : n < length pairs
  pub bad : ¬ IsPairOf proposers reviewers (pair_at pairs n)
  pub earlier : (k : ℕ) → k < n → IsPairOf proposers reviewers (pair_at pairs k)

-- the first item of these that isn't sound
abbrev pub IsItemFault : ℕ → ℕ → List (ℕ × ℕ × ℤ) → List (ℕ × ℕ) → InstanceFault → Type 0
IsItemFault proposers reviewers weights items TooMany = ⊥
IsItemFault proposers reviewers weights items (BadAgent s a) = ⊥
IsItemFault proposers reviewers weights items (BadEntry s a i) = ⊥
IsItemFault proposers reviewers weights items (BadPair n) = IsFirstBadItem proposers reviewers weights items n
IsItemFault proposers reviewers weights items BadOrder = ⊥
IsItemFault proposers reviewers weights items OutOfMemory = Unit {0}

-- the first agent, or the first entry, of both sides that isn't sound; the proposers' side comes first
abbrev pub AreAgentsFaulty : List AgentData → List AgentData → Bool → InstanceFault → Type 0
AreAgentsFaulty left right single TooMany = ⊥
AreAgentsFaulty left right single (BadAgent Proposers a) = IsFirstBadAgent left true a
AreAgentsFaulty left right single (BadAgent Reviewers a) = AreSoundAgents left true × IsFirstBadAgent right single a
AreAgentsFaulty left right single (BadEntry s a i) = ⊥
AreAgentsFaulty left right single (BadPair n) = ⊥
AreAgentsFaulty left right single BadOrder = ⊥
AreAgentsFaulty left right single OutOfMemory = Unit {0}

-- the first entry of both sides that isn't sound; the proposers' side comes first
abbrev pub AreEntriesFaulty : List AgentData → List AgentData → InstanceFault → Type 0
AreEntriesFaulty left right TooMany = ⊥
AreEntriesFaulty left right (BadAgent s a) = ⊥
AreEntriesFaulty left right (BadEntry Proposers a i) = IsFirstBadEntry left (length right) a i
AreEntriesFaulty left right (BadEntry Reviewers a i) = AreSoundEntries left (length right) × IsFirstBadEntry right (length left) a i
AreEntriesFaulty left right (BadPair n) = ⊥
AreEntriesFaulty left right BadOrder = ⊥
AreEntriesFaulty left right OutOfMemory = Unit {0}

-- one of the first n second weights is given to a pair, and is this one
pub record IsGivenBefore (seconds : List (ℕ × ℕ × ℤ)) (n : ℕ) (pair : ℕ × ℕ) (second : ℤ) : Type 0 where
  pub at : ℕ
  pub before : at < n
  pub pair_is : pair_at (map weighed seconds) at ≡ pair
  pub second_is : (slice_index_or seconds at (0, 0, pos 0)).2 ≡ second

-- for each of some pairs the one of the first n second weights that is given to it, if one is
pub record AreGiven (pairs : List (ℕ × ℕ)) (seconds : List (ℕ × ℕ × ℤ)) (n : ℕ) (given : List (Option ℤ)) : Type 0 where
  pub one_each : length given ≡ length pairs
  pub sound : (j : ℕ) → j < n → IsSecondOf pairs seconds j
  pub some : (k : ℕ) (second : ℤ) → slice_index_or given k None ≡ Some second → IsGivenBefore seconds n (pair_at pairs k) second
  pub all : (j k : ℕ) → j < n → k < length pairs → pair_at pairs k ≡ pair_at (map weighed seconds) j
      → slice_index_or given k None ≡ Some (slice_index_or seconds j (0, 0, pos 0)).2

-- the n-th second weight is the first that isn't one for these pairs
pub record IsFirstBadOf (pairs : List (ℕ × ℕ)) (seconds : List (ℕ × ℕ × ℤ)) (n : ℕ) : Type 0 where
  pub there : n < length seconds
  pub bad : ¬ IsSecondOf pairs seconds n
  pub earlier : (k : ℕ) → k < n → IsSecondOf pairs seconds k

-- the first second weight that isn't one for these pairs
abbrev pub IsGivenFault : List (ℕ × ℕ) → List (ℕ × ℕ × ℤ) → InstanceFault → Type 0
IsGivenFault pairs seconds TooMany = ⊥
IsGivenFault pairs seconds (BadAgent s a) = ⊥
IsGivenFault pairs seconds (BadEntry s a i) = ⊥
IsGivenFault pairs seconds (BadPair n) = IsFirstBadOf pairs seconds n
IsGivenFault pairs seconds BadOrder = ⊥
IsGivenFault pairs seconds OutOfMemory = Unit {0}
