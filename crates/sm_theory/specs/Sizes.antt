-- Weights of places and their sizes.
use Rattle.std.specs.Prelude.{◌^◌, ◌≡◌, ℕ, ◌<◌, ◌≤◌, List, [], Vec, ℤ, length, map, slice_index_or, unsigned_abs}
use Rattle.std.specs.declared.alloc.Global.{Global}
use Rattle.sm_market.specs.Lists.{Lists, row}
use Rattle.sm_theory.specs.Weights.{weight_at}

-- weights that are held in vectors
abbrev pub weights_in : List (Vec ℤ Global) → List (List ℤ)
weights_in vectors = map (λ v. v.items) vectors

-- the weights of the places of p
abbrev pub place_weights : List (List ℤ) → ℕ → List ℤ
place_weights weights p = slice_index_or weights p []

-- all weights are within the limit
abbrev pub AreSmall : List (List ℤ) → Type 0
AreSmall weights = (p i : ℕ) → i < length (place_weights weights p) → unsigned_abs (weight_at weights p i) ≤ 2 ^ 30

-- a small weight for each place of each proposer
pub record AreWeights (l : Lists) (weights : List (List ℤ)) : Type 0 where
  pub one_each : length weights ≡ length l.proposers
  pub per_place : (p : ℕ) → p < length l.proposers → length (place_weights weights p) ≡ length (row l.proposers p)
  pub small : AreSmall weights
