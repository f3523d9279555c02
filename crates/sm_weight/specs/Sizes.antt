-- Weights of the places that are held.
use Rattle.std.specs.Prelude.{◌≡◌, ℕ, ◌<◌, List, Option, Some, ℤ, length}
use Rattle.sm_market.specs.Matching.{held}
use Rattle.sm_theory.specs.Rotations.{proposer_at}
use Rattle.sm_theory.specs.Weights.{total, weight_of_place}
-- passed on under their names
pub use Rattle.sm_theory.specs.Sizes.{weights_in, place_weights, AreSmall, AreWeights}

-- the places that are held have weights
abbrev pub ArePlaces : List (List ℤ) → List (Option ℕ) → Type 0
ArePlaces weights places = (p i : ℕ) → held places p ≡ Some i → i < length (place_weights weights p)

-- the weight of the places that the proposers of the first n pairs hold
abbrev pub weight_held : List (List ℤ) → List (Option ℕ) → List (ℕ × ℕ) → ℕ → ℤ
weight_held weights places pairs n = total (λ i. weight_of_place weights (proposer_at pairs i) (held places (proposer_at pairs i))) n
