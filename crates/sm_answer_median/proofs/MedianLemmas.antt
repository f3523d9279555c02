-- The median of the allowed stable matchings, by the counts of their ranks.
use Rattle.std.proofs.Common.{◌≡◌, ℕ, ◌+◌, ◌/◌, ◌<◌, ◌≤◌, List, [], ◌∷◌, length, Option, None, slice_index, slice_index_or, refl, sym, ap, ◌∙◌, subst, arith}
use Rattle.std.specs.List.{All}
use Rattle.std.proofs.lemmas.List.{length-map}
use Rattle.std.proofs.lemmas.List.Elements.{All-from_get_or}
use Rattle.sm_lists.specs.Rows.{row}
use Rattle.sm_agents.specs.Written.{Written}
use Rattle.sm_instance.specs.Matching.{held, standing}
use Rattle.sm_instance.specs.Stable.{IsStable}
use Rattle.sm_instance.specs.Allowed.{IsAllowed}
use Rattle.sm_instance.specs.Ranks.{rank_vector_of}
use Rattle.sm_market.specs.Lists.{Lists}
use Rattle.sm_theory.specs.Chains.{IsCompleteChain}
use Rattle.sm_theory.specs.Vectors.{IsAllowedVector, level_vector_of}
use Rattle.sm_theory.specs.Medians.{IsAtPlace, IsMedianVector, column, middle}
use Rattle.sm_theory.proofs.Medians.Places.{middle_within, one_at_place}
use Rattle.sm_theory.proofs.Medians.OfVectors.{median_vector_is_allowed}
use Rattle.sm_lattice.specs.Counts.{AreCountsOf}
use Rattle.sm_seats.specs.SeatMarket.{seat_market}
use Rattle.sm_seats.specs.Seating.{seating_of, levels_of, written_of}
use Rattle.sm_seats.specs.Correspondence.{leveled}
use Rattle.sm_seats.proofs.VectorLaws.{vector_seated}
use Rattle.sm_lister.specs.Listers.{Lister}
use Rattle.sm_answer_list.specs.Started.{IsListerOf}
use Rattle.sm_answer_list.proofs.RankLemmas.{rank_at}
use Rattle.sm_answer_median.specs.MedianAnswer.{most_listed, AreAllListed, IsMedianOfAllowed}
use Rattle.sm_answer_median.specs.RankCounts.{AreAllCounted, IsMedianCounted, IsCountedPlace}

-- a median of some allowed stable matchings
pub record HasMedian (w : Written) (vectors : List (List ℕ)) : Type 0 where
  pub places : List (Option ℕ)
  pub is : IsMedianOfAllowed w vectors places

-- where some stable matchings are allowed, one of them is their median
pub has_median : {w : Written} {s : Lister} {vectors : List (List ℕ)} → IsListerOf w None s → AreAllListed w vectors → 0 < length vectors → HasMedian w vectors
has_median {w} {s} {vectors} h all some =
    let seats = seating_of w in
    let forced = leveled w w.forced in
    let forbidden = leveled w w.forbidden in
    let chain : IsCompleteChain (seat_market w) s.poset.first.places s.poset.rotations = subst (λ (l : Lists). IsCompleteChain l s.poset.first.places s.poset.rotations) h.market h.poset.printed.chain in
    let One : List ℕ → Type 0 = IsAllowedVector (seat_market w) (levels_of seats) forced forbidden in
    let each : All One vectors = All-from_get_or One vectors [] (λ k inside. vector_seated h.seating (slice_index_or vectors k []) (all.sound k inside)) in
    let m = median_vector_is_allowed (seat_market w) s.poset.first.places s.poset.rotations (levels_of seats) forced forbidden vectors h.seating.market chain h.seating.levels some each in
    let places = written_of seats m.0.proposers in
    record {
      places = places;
      is = record {
        all = all;
        some = some;
        stable = h.seating.forgotten m.0 m.1;
        allowed = (h.seating.allowed m.0 m.1.matching).0 m.2;
        median = subst (IsMedianVector (length w.proposers) vectors) (h.seating.ranks m.0 m.1.matching) (subst (λ n. IsMedianVector n vectors (level_vector_of (seat_market w) (levels_of seats) m.0)) h.seating.proposers m.3);
      };
    }

-- and the counts of the ranks are those of their median
pub median_counted : {w : Written} {s : Lister} {listed : ℕ} {rows : List (List ℕ)} → IsListerOf w None s → AreAllCounted w listed rows → 0 < listed → IsMedianCounted w listed rows
median_counted h a some =
    let m = has_median h a.all (omega (arith, some, a.count)) in
    record { vectors = a.vectors; places = m.places; median = m.is; counts = a.counts; count = a.count }

-- where none is listed none is allowed
pub none_allowed : {w : Written} {listed : ℕ} {rows : List (List ℕ)} → AreAllCounted w listed rows → listed ≡ 0 → (places : List (Option ℕ)) → IsStable w places → ¬ IsAllowed w places
none_allowed {w} a none places stable allowed = go a.vectors a.all (omega (arith, none, a.count))
  where
    go : (vectors : List (List ℕ)) → AreAllListed w vectors → length vectors ≡ 0 → ⊥
    go [] all long = all.ended.0 refl (rank_vector_of w places) (record { places = places; stable = stable; allowed = allowed; vector = refl }) tt
    go (v ∷ vs) all long = absurd (omega (arith, long))

-- so many are not too many
pub listed_few : {w : Written} {listed : ℕ} {rows : List (List ℕ)} → IsMedianCounted w listed rows → listed ≤ most_listed
listed_few m = omega (arith, m.count, m.median.all.limited)

-- p's partner in the median is the one whose rank stands in the middle of those that are counted
pub middle_counted : {w : Written} {listed : ℕ} {rows : List (List ℕ)} (p place : ℕ) (counts : List ℕ) → (m : IsMedianCounted w listed rows) → p < length w.proposers → place ≡ (listed + 1) / 2 → counts ≡ row rows p
    → IsCountedPlace w p counts place
middle_counted {w} {listed} {rows} p place counts m inside is row_is =
    let same : place ≡ middle (length m.vectors) = is ∙ ap middle m.count in
    let long = length-map m.vectors (λ (v : List ℕ). slice_index v p) in
    let within = middle_within (length m.vectors) m.median.some in
    record {
      places = m.places;
      matching = m.median.stable.matching;
      ranks = column m.vectors p;
      counted = subst (AreCountsOf (column m.vectors p)) (sym row_is) (m.counts.counts p inside);
      long = ap (λ (xs : List ℕ). length xs) row_is ∙ m.counts.ranks p inside;
      some = omega (arith, same, within.0);
      within = omega (arith, same, within.1, long);
      at = subst (λ k. IsAtPlace (column m.vectors p) k (standing w m.places p + 1)) (sym same)
          (subst (IsAtPlace (column m.vectors p) (middle (length m.vectors))) (rank_at w m.places refl p inside) (m.median.median.each p inside));
    }

-- so what is held wherever a rank stands there is held in the median
pub middle_held : {w : Written} {listed : ℕ} {rows : List (List ℕ)} {result : Option ℕ} (p place : ℕ) (counts : List ℕ) → (m : IsMedianCounted w listed rows) → p < length w.proposers → place ≡ (listed + 1) / 2 → counts ≡ row rows p
    → ((c : IsCountedPlace w p counts place) → result ≡ held c.places p) → result ≡ held m.places p
unfolding middle_counted
middle_held p place counts m inside is row_is given = given (middle_counted p place counts m inside is row_is)

-- a rank that stands there is that of the matching
pub rank_is : {w : Written} {p place rank : ℕ} {counts : List ℕ} → (m : IsCountedPlace w p counts place)
    → ((numbers : List ℕ) → AreCountsOf numbers counts → 0 < place → place ≤ length numbers → IsAtPlace numbers place rank) → standing w m.places p + 1 ≡ rank
rank_is {w} {p} {place} {rank} m at = one_at_place m.ranks place (standing w m.places p + 1) rank m.at (at m.ranks m.counted m.some m.within)
