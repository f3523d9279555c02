-- Level vectors, their order, and conditions on levels. A caller gives for each proposer one level per place and one more
-- for being unmatched.
use Rattle.std.specs.Prelude.{◌≡◌, ℕ, ◌+◌, ◌<◌, ◌≤◌, List, Some, length, slice_index, slice_index_or}
use Rattle.sm_market.specs.Lists.{Lists, row}
use Rattle.sm_market.specs.Matching.{Places, held}
use Rattle.sm_market.specs.Stable.{IsStable}
-- the level vector and the order of vectors, passed on
pub use Rattle.sm_market.specs.Levels.{level_of, level_vector_of}
pub use Rattle.sm_lists.specs.Orders.{IsBefore}

-- levels for all places of each proposer, and one for being unmatched, never falling along a list
pub record AreLevels (l : Lists) (levels : List (List ℕ)) : Type 0 where
  pub one_each : length levels ≡ length l.proposers
  pub per_place : (p : ℕ) → p < length l.proposers → length (row levels p) ≡ length (row l.proposers p) + 1
  pub rising : (p i j : ℕ) → i < j → j < length (row levels p) → slice_index (row levels p) i ≤ slice_index (row levels p) j

-- an order of the proposers, or of other things that are counted: each stands in it once
pub record IsOrder (count : ℕ) (order : List ℕ) : Type 0 where
  pub long : length order ≡ count
  pub in_range : (j : ℕ) → j < length order → slice_index order j < count
  pub each : (p : ℕ) → p < count → (j : ℕ) × (j < length order) × (slice_index order j ≡ p)

-- p is matched, at a place of this level
pub record HasLevel (levels : List (List ℕ)) (m : Places) (p level : ℕ) : Type 0 where
  pub place : ℕ
  pub holds : held m.proposers p ≡ Some place
  pub at_level : slice_index (row levels p) place ≡ level

-- a matching holds every forced pair of a proposer and a level, and none of the forbidden ones
pub record IsAllowed (levels : List (List ℕ)) (forced forbidden : List (ℕ × ℕ)) (m : Places) : Type 0 where
  pub holds : (c : ℕ) → c < length forced → let (p, level) = slice_index_or forced c (0, 0) in HasLevel levels m p level
  pub avoids : (c : ℕ) → c < length forbidden → let (p, level) = slice_index_or forbidden c (0, 0) in ¬ HasLevel levels m p level

-- the conditions speak of proposers that there are
abbrev pub AreInRange : ℕ → List (ℕ × ℕ) → Type 0
AreInRange n conditions = (c : ℕ) → c < length conditions → (slice_index_or conditions c (0, 0)).0 < n

-- the levels lie between these bounds, both included; the level of being unmatched counts too
abbrev pub IsWithin : Lists → List (List ℕ) → (low high : List ℕ) → Places → Type 0
IsWithin l levels low high m = (p : ℕ) → p < length l.proposers → (slice_index low p ≤ level_of l levels m p) × (level_of l levels m p ≤ slice_index high p)

-- the level vector of a stable matching that is allowed
pub record IsAllowedVector (l : Lists) (levels : List (List ℕ)) (forced forbidden : List (ℕ × ℕ)) (v : List ℕ) : Type 0 where
  pub matching : Places
  pub stable : IsStable l matching
  pub allowed : IsAllowed levels forced forbidden matching
  pub vector : v ≡ level_vector_of l levels matching
