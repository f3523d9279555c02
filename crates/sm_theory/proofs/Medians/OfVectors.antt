-- The median of the level vectors of allowed stable matchings.
use Rattle.std.proofs.Common.{◌≡◌, ℕ, arith, refl, sym, ap, ◌∙◌, Bool, List, [], ◌∷◌, map, length, All}
use Rattle.std.specs.List.{range_with_len}
use Rattle.std.proofs.lemmas.List.{length-map}
use Rattle.std.proofs.lemmas.List.Elements.{All-nil, All-cons, All-head, All-tail}
use Rattle.std.proofs.lemmas.List.FromFn.{get_or-map-range_with_len, length-map-range_with_len}
use Rattle.sm_market.specs.Lists.{Lists, IsMarket}
use Rattle.sm_market.specs.Matching.{Places}
use Rattle.sm_market.specs.Stable.{IsStable}
use Rattle.sm_theory.specs.Chains.{IsCompleteChain}
use Rattle.sm_theory.specs.ClosedSets.{IsClosed, matching_of}
use Rattle.sm_theory.specs.Vectors.{level_vector_of, IsAllowed, IsAllowedVector}
use Rattle.sm_theory.proofs.Chains.Rotations.{sets_are_matchings}
use Rattle.sm_theory.specs.Medians.{IsMedianVector, count_with, AreCounts, median_set}
use Rattle.sm_theory.specs.LawsMedians.{MedianVectorIsAllowed}
use Rattle.sm_theory.proofs.Medians.OfSets.{median_of_listed}

module _ {l : Lists} (h : IsMarket l) {first : Places} {rotations : List (List (ℕ × ℕ))} (chain : IsCompleteChain l first rotations)
    (levels : List (List ℕ)) (forced forbidden : List (ℕ × ℕ)) where
  -- the level vector of a set's matching
  abbrev vector_in : List Bool → List ℕ
  vector_in set = level_vector_of l levels (matching_of l first rotations set)

  -- a closed set of an allowed stable matching, by its level vector
  abbrev IsFound : List Bool → Type 0
  IsFound set = IsClosed l rotations set × IsAllowedVector l levels forced forbidden (level_vector_of l levels (matching_of l first rotations set))

  -- the closed sets behind some vectors
  record Sets (vectors : List (List ℕ)) : Type 0 where
    sets : List (List Bool)
    each : All IsFound sets
    vectors_are : map vector_in sets ≡ vectors

  sets_behind : (vectors : List (List ℕ)) → All (IsAllowedVector l levels forced forbidden) vectors → Sets vectors
  sets_behind [] all = record { sets = []; each = All-nil IsFound; vectors_are = refl }
  sets_behind (v ∷ vectors) all = more (All-head (IsAllowedVector l levels forced forbidden) v vectors all) (sets_behind vectors (All-tail (IsAllowedVector l levels forced forbidden) v vectors all))
    where
      more : IsAllowedVector l levels forced forbidden v → Sets vectors → Sets (v ∷ vectors)
      more one rest =
          let s = (sets_are_matchings l first rotations h chain).all one.matching one.stable in
          let is : level_vector_of l levels (matching_of l first rotations s.0) ≡ v = ap (level_vector_of l levels) s.2 ∙ sym one.vector in
          record {
            sets = s.0 ∷ rest.sets;
            each = All-cons IsFound s.0 rest.sets (s.1, rw is one) rest.each;
            vectors_are = ap (λ w. w ∷ map vector_in rest.sets) is ∙ ap (λ ws. v ∷ ws) rest.vectors_are;
          }

-- some level vectors of allowed stable matchings have the level vector of an allowed one for their median
pub median_vector_is_allowed : MedianVectorIsAllowed
median_vector_is_allowed l first rotations levels forced forbidden vectors h chain rising some all = (matching_of l first rotations (median_set holds (length sets)), found.1, found.2, rw at_vectors at found.3)
  where
    w : Sets h chain levels forced forbidden vectors
    w = sets_behind h chain levels forced forbidden vectors all

    sets : List (List Bool)
    sets = w.sets

    holds : List ℕ
    holds = map (count_with w.sets) (range_with_len 0 (length rotations))

    counts : AreCounts rotations w.sets (map (count_with w.sets) (range_with_len 0 (length rotations)))
    counts = record {
      one_each = length-map-range_with_len (count_with w.sets) 0 (length rotations);
      counts = λ k g. get_or-map-range_with_len (count_with w.sets) 0 (length rotations) k k 0 g (omega arith);
    }

    at_vectors : map (λ one. level_vector_of l levels (matching_of l first rotations one)) w.sets ≡ vectors
    at_vectors = w.vectors_are

    found : IsClosed l rotations (median_set (map (count_with w.sets) (range_with_len 0 (length rotations))) (length w.sets))
        × IsStable l (matching_of l first rotations (median_set (map (count_with w.sets) (range_with_len 0 (length rotations))) (length w.sets)))
        × IsAllowed levels forced forbidden (matching_of l first rotations (median_set (map (count_with w.sets) (range_with_len 0 (length rotations))) (length w.sets)))
        × IsMedianVector (length l.proposers) (map (λ one. level_vector_of l levels (matching_of l first rotations one)) w.sets) (level_vector_of l levels (matching_of l first rotations (median_set (map (count_with w.sets) (range_with_len 0 (length rotations))) (length w.sets))))
    found = median_of_listed l first rotations levels forced forbidden w.sets (map (count_with w.sets) (range_with_len 0 (length rotations))) h chain rising
        (omega (arith, some, ap length w.vectors_are, length-map w.sets (λ one. level_vector_of l levels (matching_of l first rotations one)))) w.each counts
