-- Weight, gain and regret, from numbers given for each place of each proposer.
use Rattle.std.specs.Prelude.{ℕ, zero, suc, List, [], Option, None, Some, map, length, slice_index, slice_index_or, max, fold, ℤ, pos, ◌+ℤ◌, ◌-ℤ◌, Bool, if◌then◌else◌}
use Rattle.sm_market.specs.Lists.{Lists, row, place_of}
use Rattle.sm_market.specs.Matching.{Places, held}
use Rattle.sm_theory.specs.Lattice.{agents}
use Rattle.sm_theory.specs.Rotations.{proposer_at, reviewer_at, target_at}
use Rattle.sm_theory.specs.Chains.{rotation_at}
use Rattle.sm_theory.specs.ClosedSets.{is_member}

-- the sum of the first n values
abbrev pub total : (ℕ → ℤ) → ℕ → ℤ
total f zero = pos 0
total f (suc n) = total f n +ℤ f n

-- the weight of place i of p, and 0 where none is given
abbrev pub weight_at : List (List ℤ) → ℕ → ℕ → ℤ
weight_at weights p i = slice_index_or (slice_index_or weights p []) i (pos 0)

-- the weight of what p holds; being unmatched weighs nothing
abbrev pub weight_of_place : List (List ℤ) → ℕ → Option ℕ → ℤ
weight_of_place weights p None = pos 0
weight_of_place weights p (Some i) = weight_at weights p i

-- the weight of a matching: the sum over its pairs (Irving, Leather and Gusfield 1987)
abbrev pub weight_of : Lists → List (List ℤ) → Places → ℤ
weight_of l weights m = total (λ p. weight_of_place weights p (held m.proposers p)) (length l.proposers)

-- the weight of a rotation's new pairs less that of its old ones
abbrev pub gain_of : Lists → List (List ℤ) → List (ℕ × ℕ) → ℤ
gain_of l weights rotation = total (λ i.
    let p = proposer_at rotation i in
    weight_at weights p (place_of l.proposers p (target_at rotation i)) -ℤ weight_at weights p (place_of l.proposers p (reviewer_at rotation i))) (length rotation)

-- the gains of all members of a set
abbrev pub gain_of_set : Lists → List (List ℤ) → List (List (ℕ × ℕ)) → List Bool → ℤ
gain_of_set l weights rotations set = total (λ k. if is_member set k then gain_of l weights (rotation_at rotations k) else pos 0) (length rotations)

-- the rank of what p holds; being unmatched counts as 0
abbrev pub rank_of_place : List (List ℕ) → ℕ → Option ℕ → ℕ
rank_of_place ranks p None = 0
rank_of_place ranks p (Some i) = slice_index (row ranks p) i

-- the regret of a matching, where each place has the greater of the two ranks of its pair: the greatest of these, and
-- 0 where nobody is matched (Gusfield 1987)
abbrev pub regret_of : Lists → List (List ℕ) → Places → ℕ
regret_of l ranks m = fold max 0 (map (λ p. rank_of_place ranks p (held m.proposers p)) (agents l.proposers))
