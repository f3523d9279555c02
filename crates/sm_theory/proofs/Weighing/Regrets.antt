-- Regrets that are bounded.
use Rattle.std.proofs.Common.{◌≡◌, ℕ, zero, suc, ◌<◌, ◌≤◌, arith, refl, ap, List, [], ◌∷◌, Option, None, Some, length, map, fold, max, slice_index}
use Rattle.std.specs.List.{range_with_len}
use Rattle.std.proofs.lemmas.List.FromFn.{get_or-map-range_with_len, length-map-range_with_len}
use Rattle.sm_market.specs.Lists.{row}
use Rattle.sm_market.specs.Matching.{held}
use Rattle.sm_market.proofs.PairingLemmas.{held_in_range}
use Rattle.sm_theory.specs.Weights.{rank_of_place, regret_of}
use Rattle.sm_theory.specs.LawsPairs.{RegretByBound}

-- what holds of each of some numbers, and of one before them
each_of : (x : ℕ) (xs : List ℕ) (bound : ℕ) → x ≤ bound → ((i : ℕ) → i < length xs → slice_index xs i ≤ bound) → (i : ℕ) → i < length (x ∷ xs) → slice_index (x ∷ xs) i ≤ bound
each_of x xs bound here rest zero less = here
each_of x xs bound here rest (suc i) less = rest i (omega arith)

-- the greatest of some numbers is at most a bound exactly where each of them is
greatest_below : (xs : List ℕ) (a bound : ℕ) → fold max a xs ≤ bound → (a ≤ bound) × ((i : ℕ) → i < length xs → slice_index xs i ≤ bound)
greatest_below [] a bound h = (h, λ i less. absurd (omega arith))
greatest_below (x ∷ xs) a bound h =
    let rest = greatest_below xs (max a x) bound h in
    (omega (arith, rest.0), each_of x xs bound (omega (arith, rest.0)) rest.1)

greatest_bounded : (xs : List ℕ) (a bound : ℕ) → a ≤ bound → ((i : ℕ) → i < length xs → slice_index xs i ≤ bound) → fold max a xs ≤ bound
greatest_bounded [] a bound h each = h
greatest_bounded (x ∷ xs) a bound h each =
    let first : x ≤ bound = each zero (omega arith) in
    greatest_bounded xs (max a x) bound (omega arith) (λ i less. each (suc i) (omega arith))

-- who is unmatched counts for nothing
pub regret_by_bound : RegretByBound
regret_by_bound l ranks m bound w = (there, back)
  where
    rank_at : (p : ℕ) → p < length l.proposers → slice_index (map (λ p. rank_of_place ranks p (held m.proposers p)) (range_with_len 0 (length l.proposers))) p ≡ rank_of_place ranks p (held m.proposers p)
    rank_at p less = get_or-map-range_with_len (λ p. rank_of_place ranks p (held m.proposers p)) 0 (length l.proposers) p p 0 less (omega arith)

    many : length (map (λ p. rank_of_place ranks p (held m.proposers p)) (range_with_len 0 (length l.proposers))) ≡ length l.proposers
    many = length-map-range_with_len (λ p. rank_of_place ranks p (held m.proposers p)) 0 (length l.proposers)

    there : regret_of l ranks m ≤ bound → (p i : ℕ) → held m.proposers p ≡ Some i → slice_index (row ranks p) i ≤ bound
    there h p i e =
        let less : p < length l.proposers = held_in_range w.proposers p i e in
        let is : rank_of_place ranks p (held m.proposers p) ≡ slice_index (row ranks p) i = ap (rank_of_place ranks p) e in
        omega (arith, (greatest_below (map (λ p. rank_of_place ranks p (held m.proposers p)) (range_with_len 0 (length l.proposers))) 0 bound h).1 p (omega (arith, many)), rank_at p less, is)

    back : ((p i : ℕ) → held m.proposers p ≡ Some i → slice_index (row ranks p) i ≤ bound) → regret_of l ranks m ≤ bound
    back each = greatest_bounded (map (λ p. rank_of_place ranks p (held m.proposers p)) (range_with_len 0 (length l.proposers))) 0 bound (omega arith)
        (λ p less. omega (arith, rank_at p (omega (arith, many)), of p (held m.proposers p) refl))
      where
        of : (p : ℕ) (o : Option ℕ) → held m.proposers p ≡ o → rank_of_place ranks p o ≤ bound
        of p None e = omega arith
        of p (Some i) e = each p i e
