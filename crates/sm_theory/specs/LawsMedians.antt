-- The laws of medians. Each is the contract of a function of `laws`.
use Rattle.std.specs.Prelude.{◌≡◌, ℕ, ◌-◌, ◌<◌, ◌≤◌, ◌↔◌, Bool, List, map, length, slice_index}
use Rattle.std.specs.List.{All}
use Rattle.std.specs.List.Sorted.{IsPermutation, IsNonDecreasing}
use Rattle.sm_market.specs.Lists.{Lists, IsMarket}
use Rattle.sm_market.specs.Matching.{Places}
use Rattle.sm_market.specs.Stable.{IsStable}
use Rattle.sm_theory.specs.Chains.{IsCompleteChain}
use Rattle.sm_theory.specs.ClosedSets.{IsClosed, matching_of}
use Rattle.sm_theory.specs.Vectors.{AreLevels, level_vector_of, IsAllowed, IsWithin, IsAllowedVector}
use Rattle.sm_theory.specs.Medians.{IsAtPlace, IsMedian, IsMedianVector, AreCounts, median_set}

-- what stands at a place is what a rising arrangement of the numbers has there
abbrev pub PlacedInOrder : Type 0
PlacedInOrder = (numbers in_order : List ℕ) (place x : ℕ) → IsPermutation numbers in_order → IsNonDecreasing in_order
    → 0 < place → place ≤ length numbers
    → IsAtPlace numbers place x ↔ (slice_index in_order (place - 1) ≡ x)

-- there is one number at a place
abbrev pub OneAtPlace : Type 0
OneAtPlace = (numbers : List ℕ) (place x y : ℕ) → IsAtPlace numbers place x → IsAtPlace numbers place y → x ≡ y

-- for any list of closed sets that isn't empty, the rotations that enough of them have are a closed set, and its matching
-- is the median of theirs (Teo and Sethuraman 1998)
abbrev pub MedianOfSets : Type 0
MedianOfSets = (l : Lists) (first : Places) (rotations : List (List (ℕ × ℕ))) (sets : List (List Bool)) (holds : List ℕ)
    → IsMarket l → IsCompleteChain l first rotations → 0 < length sets → All (IsClosed l rotations) sets
    → AreCounts rotations sets holds
    → IsClosed l rotations (median_set holds (length sets))
    × IsMedian l (map (matching_of l first rotations) sets) (matching_of l first rotations (median_set holds (length sets)))

-- stable matchings have no more than one stable median
abbrev pub OneMedian : Type 0
OneMedian = (l : Lists) (matchings : List Places) (m n : Places) → IsMarket l → IsStable l m → IsStable l n
    → IsMedian l matchings m → IsMedian l matchings n → m ≡ n

-- the median of some stable matchings within level bounds is within them
abbrev pub MedianIsWithin : Type 0
MedianIsWithin = (l : Lists) (levels : List (List ℕ)) (low high : List ℕ) (matchings : List Places) (m : Places)
    → IsMedian l matchings m → All (IsWithin l levels low high) matchings → IsWithin l levels low high m

-- the median of some stable matchings that conditions allow is allowed
abbrev pub MedianIsAllowed : Type 0
MedianIsAllowed = (l : Lists) (levels : List (List ℕ)) (forced forbidden : List (ℕ × ℕ)) (matchings : List Places) (m : Places)
    → IsStable l m → 0 < length matchings → IsMedian l matchings m
    → All (λ n. IsStable l n × IsAllowed levels forced forbidden n) matchings
    → IsAllowed levels forced forbidden m

-- the level vector of a median is the median of the level vectors
abbrev pub MedianOfVectors : Type 0
MedianOfVectors = (l : Lists) (levels : List (List ℕ)) (matchings : List Places) (m : Places)
    → IsMarket l → AreLevels l levels → IsStable l m → All (IsStable l) matchings → IsMedian l matchings m
    → IsMedianVector (length l.proposers) (map (level_vector_of l levels) matchings) (level_vector_of l levels m)

-- of two stable matchings with one level vector both are allowed or neither
abbrev pub VectorIsAllowed : Type 0
VectorIsAllowed = (l : Lists) (levels : List (List ℕ)) (forced forbidden : List (ℕ × ℕ)) (m n : Places)
    → IsMarket l → IsStable l m → IsStable l n → level_vector_of l levels m ≡ level_vector_of l levels n
    → IsAllowed levels forced forbidden m → IsAllowed levels forced forbidden n

-- for a list of closed sets that isn't empty, with the level vectors of allowed stable matchings, the rotations that enough of
-- them have are the closed set of an allowed stable matching, whose level vector is the median of theirs
abbrev pub MedianOfListed : Type 0
MedianOfListed = (l : Lists) (first : Places) (rotations : List (List (ℕ × ℕ))) (levels : List (List ℕ))
    (forced forbidden : List (ℕ × ℕ)) (sets : List (List Bool)) (holds : List ℕ)
    → IsMarket l → IsCompleteChain l first rotations → AreLevels l levels → 0 < length sets
    → All (λ set. IsClosed l rotations set × IsAllowedVector l levels forced forbidden (level_vector_of l levels (matching_of l first rotations set))) sets
    → AreCounts rotations sets holds
    → let set = median_set holds (length sets) in let m = matching_of l first rotations set in
    IsClosed l rotations set × IsStable l m × IsAllowed levels forced forbidden m
    × IsMedianVector (length l.proposers) (map (λ one. level_vector_of l levels (matching_of l first rotations one)) sets) (level_vector_of l levels m)

-- for a list of level vectors of allowed stable matchings that isn't empty there is an allowed stable matching whose level vector
-- is their median (Teo and Sethuraman 1998)
abbrev pub MedianVectorIsAllowed : Type 0
MedianVectorIsAllowed = (l : Lists) (first : Places) (rotations : List (List (ℕ × ℕ))) (levels : List (List ℕ))
    (forced forbidden : List (ℕ × ℕ)) (vectors : List (List ℕ))
    → IsMarket l → IsCompleteChain l first rotations → AreLevels l levels → 0 < length vectors
    → All (IsAllowedVector l levels forced forbidden) vectors
    → (m : Places) × IsStable l m × IsAllowed levels forced forbidden m × IsMedianVector (length l.proposers) vectors (level_vector_of l levels m)
