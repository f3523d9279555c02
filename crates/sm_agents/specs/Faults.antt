-- What an `InstanceFault` says of what was to be an instance.
use Rattle.std.specs.Prelude.{◌≡◌, ◌≢◌, ℕ, ◌<◌, ◌≤◌, Bool, true, List, [], length, map, slice_index_or, ℤ, pos}
use Rattle.std.specs.Int.RustNames.{unsigned_abs}
use Rattle.sm_lists.specs.Pairs.{pair_at}
use Rattle.sm_text.specs.Limits.{most_weight}
use Rattle.sm_agents.specs.Written.{AgentData, Written, row, weighed}
use Rattle.sm_agents.specs.Sound.{IsWithinLimits, IsSoundAgent, AreSoundAgents, IsSoundEntry, AreSoundEntries, items_of, IsSoundItem, IsPairOf, is_single}
use Rattle.sm_lists.specs.EachOnce.{IsEachOnce}
use Rattle.sm_agents.specs.declared.kinds.Side.{Side}
use Rattle.sm_agents.specs.declared.kinds.Side.TheVariants.{Proposers, Reviewers}
use Rattle.sm_agents.specs.declared.faults.InstanceFault.{InstanceFault}
use Rattle.sm_agents.specs.declared.faults.InstanceFault.TheVariants.{TooMany, BadAgent, BadEntry, BadPair, BadOrder, OutOfMemory}

-- a is the first agent of its side that isn't sound
pub record IsFirstBadAgent (agents : List AgentData) (single : Bool) (a : ℕ) : Type 0 where
  pub there : a < length agents
  pub bad : ¬ IsSoundAgent agents single a
  pub earlier : (b : ℕ) → b < a → IsSoundAgent agents single b

-- place i of a's list has the first entry of its side that isn't sound
pub record IsFirstBadEntry (agents : List AgentData) (others : ℕ) (a i : ℕ) : Type 0 where
  pub there : i < length (row agents a)
  pub bad : ¬ IsSoundEntry agents others a i
  pub earlier_agents : (b j : ℕ) → b < a → j < length (row agents b) → IsSoundEntry agents others b j
  pub earlier_places : (j : ℕ) → j < i → IsSoundEntry agents others a j

-- the n-th item is the first that isn't sound
pub record IsFirstBadItem (proposers reviewers : ℕ) (weights : List (ℕ × ℕ × ℤ)) (items : List (ℕ × ℕ)) (n : ℕ) : Type 0 where
  pub there : n < length items
  pub bad : ¬ IsSoundItem proposers reviewers weights items n
  pub earlier : (k : ℕ) → k < n → IsSoundItem proposers reviewers weights items k

-- the first agent of both sides that isn't sound: a reviewer where all proposers are
abbrev pub IsBadAgent : Written → Side → ℕ → Type 0
IsBadAgent w Proposers a = IsFirstBadAgent w.proposers true a
IsBadAgent w Reviewers a = AreSoundAgents w.proposers true × IsFirstBadAgent w.reviewers (is_single w.kind) a

-- the first entry of both sides that isn't sound
abbrev pub IsBadEntry : Written → Side → ℕ → ℕ → Type 0
IsBadEntry w Proposers a i = IsFirstBadEntry w.proposers (length w.reviewers) a i
IsBadEntry w Reviewers a i = AreSoundEntries w.proposers (length w.reviewers) × IsFirstBadEntry w.reviewers (length w.proposers) a i

-- all agents are sound, and within their limits; all entries are
pub record HasSoundAgents (w : Written) : Type 0 where
  pub limits : IsWithinLimits w.proposers w.reviewers
  pub proposers : AreSoundAgents w.proposers true
  pub reviewers : AreSoundAgents w.reviewers (is_single w.kind)

-- all entries of both sides are sound
pub record HasSoundEntries (w : Written) : Type 0 where
  pub proposers : AreSoundEntries w.proposers (length w.reviewers)
  pub reviewers : AreSoundEntries w.reviewers (length w.proposers)

-- what each fault says of an instance; want of memory says nothing
abbrev pub IsInstanceFault : Written → InstanceFault → Type 0
IsInstanceFault w TooMany = ¬ IsWithinLimits w.proposers w.reviewers
IsInstanceFault w (BadAgent side a) = IsWithinLimits w.proposers w.reviewers × IsBadAgent w side a
IsInstanceFault w (BadEntry side a i) = HasSoundAgents w × IsBadEntry w side a i
IsInstanceFault w (BadPair n) = HasSoundAgents w × HasSoundEntries w × IsFirstBadItem (length w.proposers) (length w.reviewers) w.weights (items_of w.weights w.forced w.forbidden) n
IsInstanceFault w BadOrder = ⊥
IsInstanceFault w OutOfMemory = Unit {0}

-- the same of persons, who are named as proposers
abbrev pub IsPersonsFault : List AgentData → InstanceFault → Type 0
IsPersonsFault persons TooMany = ¬ IsWithinLimits persons []
IsPersonsFault persons (BadAgent side a) = (side ≡ Proposers) × IsWithinLimits persons [] × IsFirstBadAgent persons true a
IsPersonsFault persons (BadEntry side a i) = (side ≡ Proposers) × IsWithinLimits persons [] × AreSoundAgents persons true × IsFirstBadEntry persons (length persons) a i
IsPersonsFault persons (BadPair n) = ⊥
IsPersonsFault persons BadOrder = ⊥
IsPersonsFault persons OutOfMemory = Unit {0}

-- what a fault says of an order that was to be set: it doesn't have each of so many proposers once
abbrev pub IsOrderFault : ℕ → List ℕ → InstanceFault → Type 0
IsOrderFault count order TooMany = ⊥
IsOrderFault count order (BadAgent side a) = ⊥
IsOrderFault count order (BadEntry side a i) = ⊥
IsOrderFault count order (BadPair n) = ⊥
IsOrderFault count order BadOrder = ¬ IsEachOnce count order
IsOrderFault count order OutOfMemory = Unit {0}

-- a pair is one of these
pub record IsPairAmong (pairs : List (ℕ × ℕ)) (pair : ℕ × ℕ) : Type 0 where
  pub at : ℕ
  pub there : at < length pairs
  pub is : pair_at pairs at ≡ pair

-- the n-th second weight is of a size of at most 1,000,000,000, and is given to one of these pairs, and to none that an earlier one
-- is given to
pub record IsSecondOf (pairs : List (ℕ × ℕ)) (seconds : List (ℕ × ℕ × ℤ)) (n : ℕ) : Type 0 where
  pub size : unsigned_abs (slice_index_or seconds n (0, 0, pos 0)).2 ≤ most_weight
  pub among : IsPairAmong pairs (pair_at (map weighed seconds) n)
  pub fresh : (k : ℕ) → k < n → pair_at (map weighed seconds) k ≢ pair_at (map weighed seconds) n

-- the n-th second weight names two agents of the instance, and is one for the pairs that have a weight
pub record IsSoundSecond (w : Written) (seconds : List (ℕ × ℕ × ℤ)) (n : ℕ) : Type 0 where
  pub pair : IsPairOf (length w.proposers) (length w.reviewers) (pair_at (map weighed seconds) n)
  pub second : IsSecondOf (map weighed w.weights) seconds n

-- the n-th second weight is the first that isn't sound
pub record IsFirstBadSecond (w : Written) (seconds : List (ℕ × ℕ × ℤ)) (n : ℕ) : Type 0 where
  pub there : n < length seconds
  pub bad : ¬ IsSoundSecond w seconds n
  pub earlier : (k : ℕ) → k < n → IsSoundSecond w seconds k

-- what a fault says of second weights that were to be set
abbrev pub IsSecondFault : Written → List (ℕ × ℕ × ℤ) → InstanceFault → Type 0
IsSecondFault w seconds TooMany = ⊥
IsSecondFault w seconds (BadAgent side a) = ⊥
IsSecondFault w seconds (BadEntry side a i) = ⊥
IsSecondFault w seconds (BadPair n) = IsFirstBadSecond w seconds n
IsSecondFault w seconds BadOrder = ⊥
IsSecondFault w seconds OutOfMemory = Unit {0}
