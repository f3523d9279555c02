-- Ranks of places, and allowed stable matchings of the least regret.
use Rattle.std.specs.Prelude.{◌≡◌, ℕ, ◌<◌, ◌≤◌, List, length, slice_index}
use Rattle.sm_market.specs.Lists.{Lists, row}
use Rattle.sm_market.specs.Matching.{Places, standing}
use Rattle.sm_market.specs.Stable.{IsStable}
use Rattle.sm_theory.specs.Vectors.{IsAllowed}
use Rattle.sm_theory.specs.Weights.{regret_of}

-- a rank for each place of each proposer, equal for places of one level
pub record AreRanks (l : Lists) (levels ranks : List (List ℕ)) : Type 0 where
  pub one_each : length ranks ≡ length l.proposers
  pub per_place : (p : ℕ) → p < length l.proposers → length (row ranks p) ≡ length (row l.proposers p)
  pub alike : (p i j : ℕ) → i < length (row l.proposers p) → j < length (row l.proposers p)
      → slice_index (row levels p) i ≡ slice_index (row levels p) j → slice_index (row ranks p) i ≡ slice_index (row ranks p) j

-- a stable matching that is allowed and has a regret of at most a bound, than which no proposer has a better one
pub record IsBestBelow (l : Lists) (levels ranks : List (List ℕ)) (bound : ℕ) (forced forbidden : List (ℕ × ℕ)) (m : Places) : Type 0 where
  pub stable : IsStable l m
  pub allowed : IsAllowed levels forced forbidden m
  pub below : regret_of l ranks m ≤ bound
  pub best : (n : Places) → IsStable l n → IsAllowed levels forced forbidden n → regret_of l ranks n ≤ bound → (p : ℕ)
      → standing l.proposers m.proposers p ≤ standing l.proposers n.proposers p

-- an allowed stable matching of this regret, than which none has a lower one, and none that has it is better for a proposer
-- (Gusfield 1987)
pub record IsLeastRegret (l : Lists) (levels ranks : List (List ℕ)) (forced forbidden : List (ℕ × ℕ)) (m : Places) (regret : ℕ) : Type 0 where
  pub stable : IsStable l m
  pub allowed : IsAllowed levels forced forbidden m
  pub regret_is : regret_of l ranks m ≡ regret
  pub least : (n : Places) → IsStable l n → IsAllowed levels forced forbidden n → regret ≤ regret_of l ranks n
  pub best : (n : Places) → IsStable l n → IsAllowed levels forced forbidden n → regret_of l ranks n ≡ regret → (p : ℕ)
      → standing l.proposers m.proposers p ≤ standing l.proposers n.proposers p
