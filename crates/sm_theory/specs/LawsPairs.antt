-- The laws of stable pairs and of regrets. Each is the contract of a function of `laws`.
use Rattle.std.specs.Prelude.{◌≡◌, ℕ, ◌≤◌, ◌⊎◌, ◌↔◌, List, Some, slice_index}
use Rattle.sm_market.specs.Lists.{Lists, row, IsMarket}
use Rattle.sm_market.specs.Matching.{Places, held, standing, IsMatching}
use Rattle.sm_theory.specs.Chains.{IsCompleteChain}
use Rattle.sm_theory.specs.StablePlaces.{IsStablePlace, IsMovedTo}
use Rattle.sm_theory.specs.Weights.{regret_of}

-- a proposer has a place in some stable matching exactly where it is its first or a rotation moves it there
-- (Gusfield and Irving 1989, section 2.5)
abbrev pub StablePlaces : Type 0
StablePlaces = (l : Lists) (first : Places) (rotations : List (List (ℕ × ℕ))) (p i : ℕ)
    → IsMarket l → IsCompleteChain l first rotations
    → IsStablePlace l p i ↔ ((standing l.proposers first.proposers p ≡ i) ⊎ IsMovedTo l rotations p i)

-- a matching has a regret of at most a bound exactly where it holds no pair of a rank above it (Gusfield 1987)
abbrev pub RegretByBound : Type 0
RegretByBound = (l : Lists) (ranks : List (List ℕ)) (m : Places) (bound : ℕ) → IsMatching l m
    → (regret_of l ranks m ≤ bound) ↔ ((p i : ℕ) → held m.proposers p ≡ Some i → slice_index (row ranks p) i ≤ bound)
