-- A market of seats whose levels are ranks of hospitals: two seats of one hospital are of one level.
use Rattle.std.specs.Prelude.{◌≡◌, ℕ, ◌<◌, List, [], ◌∷◌, Some, length, slice_index}
use Rattle.sm_market.specs.Lists.{Lists, row, entry, IsMarket}
use Rattle.sm_market.specs.Matching.{Places}
use Rattle.sm_market.specs.Stable.{IsStable}
use Rattle.sm_theory.specs.Vectors.{AreLevels, level_vector_of, IsBefore}

-- five residents, and the seats 0 and 1 of one hospital, and 2, 3 and 4 of three others with one seat each
abbrev pub seats : Lists
seats = record {
  proposers = (0 ∷ 1 ∷ []) ∷ (3 ∷ 4 ∷ []) ∷ (4 ∷ 3 ∷ []) ∷ (0 ∷ 1 ∷ 2 ∷ []) ∷ (2 ∷ 0 ∷ 1 ∷ []) ∷ [];
  reviewers = (4 ∷ 0 ∷ 3 ∷ []) ∷ (4 ∷ 0 ∷ 3 ∷ []) ∷ (3 ∷ 4 ∷ []) ∷ (2 ∷ 1 ∷ []) ∷ (1 ∷ 2 ∷ []) ∷ [];
}

-- the rank of each seat's hospital, and of being unmatched
abbrev pub seats_levels : List (List ℕ)
seats_levels = (1 ∷ 1 ∷ 2 ∷ []) ∷ (1 ∷ 2 ∷ 3 ∷ []) ∷ (1 ∷ 2 ∷ 3 ∷ []) ∷ (1 ∷ 1 ∷ 2 ∷ 3 ∷ []) ∷ (1 ∷ 2 ∷ 2 ∷ 3 ∷ []) ∷ []

-- the rank of each seat
abbrev pub seats_ranks : List (List ℕ)
seats_ranks = (1 ∷ 2 ∷ 3 ∷ []) ∷ (1 ∷ 2 ∷ 3 ∷ []) ∷ (1 ∷ 2 ∷ 3 ∷ []) ∷ (1 ∷ 2 ∷ 3 ∷ 4 ∷ []) ∷ (1 ∷ 2 ∷ 3 ∷ 4 ∷ []) ∷ []

-- residents 3 and 4 have their second hospitals, and resident 0 the second seat of its first
abbrev pub seats_turned : Places
seats_turned = record { proposers = Some 1 ∷ Some 0 ∷ Some 0 ∷ Some 2 ∷ Some 1 ∷ []; reviewers = Some 0 ∷ Some 1 ∷ Some 0 ∷ Some 1 ∷ Some 1 ∷ [] }

-- residents 1 and 2 have their second hospitals
abbrev pub seats_exchanged : Places
seats_exchanged = record { proposers = Some 0 ∷ Some 1 ∷ Some 1 ∷ Some 1 ∷ Some 0 ∷ []; reviewers = Some 1 ∷ Some 2 ∷ Some 1 ∷ Some 0 ∷ Some 0 ∷ [] }

-- in the order of the residents the first matching is before the second by hospitals, though it is behind by seats; and
-- seats of one level have equal lists, as the law on level vectors wants it
abbrev pub Seats : Type 0
Seats = IsMarket seats × AreLevels seats seats_levels × IsStable seats seats_turned × IsStable seats seats_exchanged
    × (level_vector_of seats seats_levels seats_turned ≡ 1 ∷ 1 ∷ 1 ∷ 2 ∷ 2 ∷ [])
    × (level_vector_of seats seats_levels seats_exchanged ≡ 1 ∷ 2 ∷ 2 ∷ 1 ∷ 1 ∷ [])
    × IsBefore (0 ∷ 1 ∷ 2 ∷ 3 ∷ 4 ∷ []) (level_vector_of seats seats_levels seats_turned) (level_vector_of seats seats_levels seats_exchanged)
    × IsBefore (0 ∷ 1 ∷ 2 ∷ 3 ∷ 4 ∷ []) (level_vector_of seats seats_ranks seats_exchanged) (level_vector_of seats seats_ranks seats_turned)
    × ((p i j : ℕ) → i < length (row seats.proposers p) → j < length (row seats.proposers p) → slice_index (row seats_levels p) i ≡ slice_index (row seats_levels p) j
    → row seats.reviewers (entry seats.proposers p i) ≡ row seats.reviewers (entry seats.proposers p j))
