-- Gains that are all 0.
use Rattle.std.proofs.Common.{◌≡◌, ℕ, zero, suc, List, [], ◌∷◌, length, map, replicate, refl, sym, ℤ, pos}
use Rattle.std.specs.List.{sum_by}
use Rattle.std.specs.Int.RustNames.{unsigned_abs}
use Rattle.sm_market.specs.Lists.{Lists}
use Rattle.sm_theory.specs.Weights.{gain_of}
use Rattle.sm_weight.specs.Lightest.{NoneGains}

-- they are the gains by weights by which no rotation gains anything
pub zero_gains : (l : Lists) (weights : List (List ℤ)) (rotations : List (List (ℕ × ℕ))) → NoneGains l weights
    → replicate (length rotations) (pos 0) ≡ map (gain_of l weights) rotations
zero_gains l weights [] none = refl
zero_gains l weights (r ∷ rs) none = rw (none r, sym (zero_gains l weights rs none)) refl

-- and small
pub zeros_small : (n : ℕ) → sum_by unsigned_abs (replicate n (pos 0)) ≡ 0
zeros_small zero = refl
zeros_small (suc n) = zeros_small n
