-- Small medians and routes of which the checker computes what they are.
use Rattle.std.specs.Prelude.{◌≡◌, ℕ, Bool, true, false, List, [], ◌∷◌}
use Rattle.sm_theory.specs.ClosedSets.{matching_of}
use Rattle.sm_theory.specs.WitnessesListing.{two_pairs, two_pairs_first, two_pairs_chain}
use Rattle.sm_theory.specs.declared.step.Step.TheVariants.{Back, Forth}
use Rattle.sm_theory.specs.Medians.{middle, IsAtPlace, median_set}
use Rattle.sm_theory.specs.Routes.{IsShortestRoute, sets_along, steps_between, difference}

-- four numbers of which one stands twice
abbrev pub four_numbers : List ℕ
four_numbers = 3 ∷ 1 ∷ 2 ∷ 1 ∷ []

-- in order they are 1, 1, 2 and 3: in the middle stands 1 and not 2, which is at the third place
abbrev pub MiddleOfFour : Type 0
MiddleOfFour = IsAtPlace four_numbers (middle 4) 1 × (¬ IsAtPlace four_numbers (middle 4) 2) × IsAtPlace four_numbers 3 2

-- of no rotation, the first one and both, the first one is the median; and one set has what it has
abbrev pub MedianOfThree : Type 0
MedianOfThree = (median_set (2 ∷ 1 ∷ []) 3 ≡ true ∷ false ∷ []) × (median_set (0 ∷ 1 ∷ []) 1 ≡ false ∷ true ∷ [])

-- the sets of two rotations that don't need each other: the first alone, and the second alone
abbrev pub first_alone : List Bool
first_alone = true ∷ false ∷ []

-- the second alone
abbrev pub second_alone : List Bool
second_alone = false ∷ true ∷ []

-- from the one to the other it is one step back and one forth, over the set of none
abbrev pub OneBackOneForth : Type 0
OneBackOneForth = (steps_between first_alone second_alone 2 ≡ Back 0 ∷ Forth 1 ∷ [])
    × (sets_along first_alone (Back 0 ∷ Forth 1 ∷ []) ≡ (false ∷ false ∷ []) ∷ second_alone ∷ [])
    × (difference first_alone second_alone 2 ≡ 2)

-- and in the market of two pairs that is a shortest route, of two steps
abbrev pub RouteOfTwo : Type 0
RouteOfTwo = IsShortestRoute two_pairs
    (matching_of two_pairs two_pairs_first two_pairs_chain first_alone)
    (matching_of two_pairs two_pairs_first two_pairs_chain (false ∷ false ∷ []) ∷ matching_of two_pairs two_pairs_first two_pairs_chain second_alone ∷ [])
    (matching_of two_pairs two_pairs_first two_pairs_chain second_alone)
