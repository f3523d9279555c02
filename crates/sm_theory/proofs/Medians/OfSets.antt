-- The laws of medians.
use Rattle.std.proofs.Common.{◌≡◌, ℕ, ◌+◌, ◌-◌, ◌<◌, ◌≤◌, inl, inr, arith, sym, ap, ◌∙◌, Bool, true, false, nat_lt, nat_le, List, map, length, slice_index, slice_index_or, Some, All, count_by}
use Rattle.std.proofs.lemmas.Bool.{ltb-true, ltb-false, leb-true, leb-false, lt-ltb, le-leb}
use Rattle.std.proofs.lemmas.List.{length-map, get_or-map}
use Rattle.std.proofs.lemmas.List.Elements.{All-map}
use Rattle.std.proofs.lemmas.List.FromFn.{get_or-map-range_with_len, length-map-range_with_len}
use Rattle.sm_market.specs.Lists.{Lists, row, IsMarket}
use Rattle.sm_market.proofs.PairingLemmas.{held_in_range}
use Rattle.sm_market.specs.Matching.{Places, standing}
use Rattle.sm_market.proofs.CoreLaws.{same_matched}
use Rattle.sm_market.proofs.Bridge.{stand_of, stable_of, held_at, standing-some, stable_equal}
use Rattle.sm_market.specs.Matching.{held}
use Rattle.sm_market.specs.Stable.{IsStable}
use Rattle.sm_lists.proofs.Counting.{lt_or_le}
use Rattle.sm_theory.specs.Vectors.{level_of, level_vector_of, HasLevel, IsAllowed, IsWithin}
use Rattle.sm_theory.proofs.Bridge.Places.{row_past}
use Rattle.sm_theory.specs.Chains.{IsCompleteChain}
use Rattle.sm_theory.specs.ClosedSets.{is_member, IsClosed, matching_of}
use Rattle.sm_theory.proofs.Bridge.Chain.{chain_of, closed_of}
use Rattle.sm_theory.proofs.Bridge.Sets.{set_is_of, set_stable}
use Rattle.sm_theory.specs.Medians.{middle, IsAtPlace, standings, column, IsMedian, IsMedianVector, AreCounts, median_set}
use Rattle.sm_theory.specs.LawsMedians.{MedianOfSets, OneMedian, MedianIsWithin, MedianIsAllowed, MedianOfVectors, VectorIsAllowed, MedianOfListed}
use Rattle.sm_theory.proofs.Medians.Counts.{count_more, count_map, map_twice, FailsAndPasses, some_more}
use Rattle.sm_theory.proofs.Medians.Places.{middle_within, one_at_place}
use Rattle.sm_theory.proofs.Medians.Core.{at_place}

-- whether a rotation is one of the many
pub median_at : (holds : List ℕ) (total k : ℕ) → k < length holds → is_member (median_set holds total) k ≡ nat_le (total - middle total + 1) (slice_index_or holds k 0)
median_at holds total k h = get_or-map (λ x. nat_le (total - middle total + 1) x) holds k 0 false h

module _ {l : Lists} (h : IsMarket l) {first : Places} {rotations : List (List (ℕ × ℕ))} (chain : IsCompleteChain l first rotations)
    {sets : List (List Bool)} (some : 0 < length sets) (all : All (IsClosed l rotations) sets) {holds : List ℕ} (counts : AreCounts rotations sets holds) where
  -- the set of the rotations that enough of the sets have
  abbrev many : List Bool
  many = median_set holds (length sets)

  -- so many have a member
  often : (k : ℕ) → k < length rotations → is_member many k ≡ true → length sets - middle (length sets) + 1 ≤ count_by (λ set. is_member set k) sets
  often k g member = let e = median_at holds (length sets) k (omega (arith, g, counts.one_each)) in omega (arith, counts.counts k g, leb-true (length sets - middle (length sets) + 1) (slice_index_or holds k 0) (sym e ∙ member))

  -- and at most so many one that isn't
  seldom : (k : ℕ) → k < length rotations → is_member many k ≡ false → count_by (λ set. is_member set k) sets ≤ length sets - middle (length sets)
  seldom k g out = let e = median_at holds (length sets) k (omega (arith, g, counts.one_each)) in omega (arith, counts.counts k g, leb-false (length sets - middle (length sets) + 1) (slice_index_or holds k 0) (sym e ∙ out))

  -- a predecessor is in as many sets
  pub many_closed : IsClosed l rotations many
  many_closed = record {
    one_each = length-map holds (λ x. nat_le (length sets - middle (length sets) + 1) x) ∙ counts.one_each;
    closed = λ i j a b member need. median_at holds (length sets) i (omega (arith, a, counts.one_each)) ∙ le-leb _ _ (omega (
      arith,
      counts.counts i a,
      often j b member,
      count_more (IsClosed l rotations) (λ set. is_member set j) (λ set. is_member set i) sets all (λ set closed in_set. closed.closed i j a b in_set need),
    ));
  }

  -- and the matching of these rotations is the median
  pub many_median : IsMedian l (map (matching_of l first rotations) sets) (matching_of l first rotations many)
  many_median = record { each = λ p _. rw (map_twice (λ (m : Places). standing l.proposers m.proposers p) (matching_of l first rotations) sets, length-map sets (matching_of l first rotations)) (each p) }
    where
      each : (p : ℕ) → IsAtPlace (map (λ set. standing l.proposers (matching_of l first rotations set).proposers p) sets) (middle (length sets)) (standing l.proposers (matching_of l first rotations many).proposers p)
      each p =
          let within = middle_within (length sets) some in
          at_place (chain_of h chain) (λ set k. is_member set k) (λ set. stand_of l (matching_of l first rotations set)) sets
          (λ k d g. record { closed = closed_of h (all k d g); of = set_is_of h chain (slice_index_or sets k d) })
          (λ k. is_member many k) (middle (length sets)) within.0 within.1 often seldom (set_is_of h chain many) p

-- for any list of closed sets the rotations that enough of them have are a closed set, whose matching is the median
pub median_of_sets : MedianOfSets
median_of_sets l first rotations sets holds h chain some all counts = (many_closed h chain some all counts, many_median h chain some all counts)

-- stable matchings have no more than one stable median
pub one_median : OneMedian
one_median l matchings m n h hm hn a b = stable_equal h hm hn same
  where
    same : (p : ℕ) → standing l.proposers m.proposers p ≡ standing l.proposers n.proposers p
    same p = elim (lt_or_le p (length l.proposers)) [
      | inl k ↦ one_at_place (standings l matchings p) (middle (length matchings)) (standing l.proposers m.proposers p) (standing l.proposers n.proposers p) (a.each p k) (b.each p k)
      | inr k ↦ omega (arith, row_past l.proposers p k, (stable_of h hm).fit.left.within p, (stable_of h hn).fit.left.within p)
    ]

-- one of the matchings in which p stands as in the median
record Alike (l : Lists) (matchings : List Places) (m : Places) (p : ℕ) : Type 0 where
  at : ℕ
  within : at < length matchings
  matching : Places
  there : (d : Places) → slice_index_or matchings at d ≡ matching
  same : standing l.proposers matching.proposers p ≡ standing l.proposers m.proposers p

alike : (l : Lists) (matchings : List Places) (m : Places) → IsMedian l matchings m → (p : ℕ) → p < length l.proposers → Alike l matchings m p
alike l matchings m median p k =
    let x : ℕ = standing l.proposers m.proposers p in
    let w : FailsAndPasses (λ (n : Places). nat_lt (standing l.proposers n.proposers p) x) (λ (n : Places). nat_le (standing l.proposers n.proposers p) x) matchings =
    some_more (λ n. nat_lt (standing l.proposers n.proposers p) x) (λ n. nat_le (standing l.proposers n.proposers p) x) matchings
    (omega (
      arith,
      (median.each p k).fewer,
      (median.each p k).enough,
      count_map (λ y. nat_lt y x) (λ (n : Places). standing l.proposers n.proposers p) matchings,
      count_map (λ y. nat_le y x) (λ (n : Places). standing l.proposers n.proposers p) matchings,
    )) in
    record {
      at = w.at;
      within = w.within;
      matching = w.element;
      there = w.there;
      same = omega (arith, ltb-false (standing l.proposers w.element.proposers p) x w.fails, leb-true (standing l.proposers w.element.proposers p) x w.passes);
    }

-- the median of stable matchings within bounds is within them
pub median_is_within : MedianIsWithin
median_is_within l levels low high matchings m median all p k =
    let w = alike l matchings m median p k in
    let good : IsWithin l levels low high w.matching = rw (w.there m) at (all w.at m w.within) in
    let bounds : (slice_index low p ≤ level_of l levels w.matching p) × (level_of l levels w.matching p ≤ slice_index high p) = good p k in
    rw (← w.same) bounds

-- who holds a place in one of two stable matchings in which it stands alike holds it in the other
same_held : {l : Lists} (n k : Places) → IsStable l n → (p i : ℕ) → standing l.proposers n.proposers p ≡ standing l.proposers k.proposers p → held n.proposers p ≡ Some i → held k.proposers p ≡ Some i
same_held {l} n k hn p i same e =
    let at = standing-some l.proposers n.proposers p i e in
    held_at l.proposers k.proposers p (omega (arith, same, at, hn.matching.proposers.on_list p i e)) ∙ ap Some (omega (arith, same, at))

-- the median of stable matchings that conditions allow is allowed
pub median_is_allowed : MedianIsAllowed
median_is_allowed l levels forced forbidden matchings m hm some median all = record { holds = holds; avoids = avoids }
  where
    good : (p : ℕ) (w : Alike l matchings m p) → IsStable l w.matching × IsAllowed levels forced forbidden w.matching
    good p w = rw (w.there m) at (all w.at m w.within)

    holds : (c : ℕ) → c < length forced → let (p, level) = slice_index_or forced c (0, 0) in HasLevel levels m p level
    holds c k = elim (lt_or_le p (length l.proposers)) [
      | inl inside ↦ found (alike l matchings m median p inside)
      | inr past ↦
          let first = all 0 m some in
          let v : HasLevel levels (slice_index_or matchings 0 m) p level = first.1.holds c k in
          absurd (omega (arith, past, held_in_range first.0.matching.proposers p v.place v.holds))
    ]
      where
        p : ℕ
        p = (slice_index_or forced c (0, 0)).0

        level : ℕ
        level = (slice_index_or forced c (0, 0)).1

        found : Alike l matchings m p → HasLevel levels m p level
        found w =
            let g = good p w in
            let v : HasLevel levels w.matching p level = g.1.holds c k in
            record { place = v.place; holds = same_held w.matching m g.0 p v.place w.same v.holds; at_level = v.at_level }

    avoids : (c : ℕ) → c < length forbidden → let (p, level) = slice_index_or forbidden c (0, 0) in ¬ HasLevel levels m p level
    avoids c k v =
        let inside = held_in_range hm.matching.proposers (slice_index_or forbidden c (0, 0)).0 v.place v.holds in
        let w = alike l matchings m median (slice_index_or forbidden c (0, 0)).0 inside in
        let g = good (slice_index_or forbidden c (0, 0)).0 w in
        g.1.avoids c k (record { place = v.place; holds = same_held m w.matching hm (slice_index_or forbidden c (0, 0)).0 v.place (sym w.same) v.holds; at_level = v.at_level })

-- the level vector of a median is the median of the level vectors
pub median_of_vectors : MedianOfVectors
median_of_vectors l levels matchings m h rising hm all median = record { long = length-map-range_with_len (level_of l levels m) 0 (length l.proposers); each = each }
  where
    at : (n : Places) (p : ℕ) → p < length l.proposers → slice_index (level_vector_of l levels n) p ≡ level_of l levels n p
    at n p k = get_or-map-range_with_len (level_of l levels n) 0 (length l.proposers) p p 0 k (omega arith)

    within : (n : Places) (p : ℕ) → p < length l.proposers → IsStable l n → standing l.proposers n.proposers p < length (row levels p)
    within n p k hn = omega (arith, rising.per_place p k, (stable_of h hn).fit.left.within p)

    -- a better place is of no greater level
    no_greater : (n o : Places) (p : ℕ) → p < length l.proposers → IsStable l o → standing l.proposers n.proposers p ≤ standing l.proposers o.proposers p → level_of l levels n p ≤ level_of l levels o p
    no_greater n o p k ho less = elim (lt_or_le (standing l.proposers n.proposers p) (standing l.proposers o.proposers p)) [
      | inl lower ↦ rising.rising p (standing l.proposers n.proposers p) (standing l.proposers o.proposers p) lower (within o p k ho)
      | inr no_lower ↦ let same : standing l.proposers n.proposers p ≡ standing l.proposers o.proposers p = omega arith in omega (arith, ap (slice_index (row levels p)) same)
    ]

    each : (p : ℕ) → p < length l.proposers → IsAtPlace (column (map (level_vector_of l levels) matchings) p) (middle (length (map (level_vector_of l levels) matchings))) (slice_index (level_vector_of l levels m) p)
    each p k = rw (map_twice (λ v. slice_index v p) (level_vector_of l levels) matchings, length-map matchings (level_vector_of l levels)) (record {
      fewer = omega (
        arith,
        (median.each p k).fewer,
        count_map (λ y. nat_lt y level) (λ n. slice_index (level_vector_of l levels n) p) matchings,
        count_map (λ y. nat_lt y (standing l.proposers m.proposers p)) (λ (n : Places). standing l.proposers n.proposers p) matchings,
        count_more (IsStable l) (λ n. nat_lt (slice_index (level_vector_of l levels n) p) level) (λ n. nat_lt (standing l.proposers n.proposers p) (standing l.proposers m.proposers p)) matchings all better,
      );
      enough = omega (
        arith,
        (median.each p k).enough,
        count_map (λ y. nat_le y level) (λ n. slice_index (level_vector_of l levels n) p) matchings,
        count_map (λ y. nat_le y (standing l.proposers m.proposers p)) (λ (n : Places). standing l.proposers n.proposers p) matchings,
        count_more (IsStable l) (λ n. nat_le (standing l.proposers n.proposers p) (standing l.proposers m.proposers p)) (λ n. nat_le (slice_index (level_vector_of l levels n) p) level) matchings all no_worse,
      );
    })
      where
        level : ℕ
        level = slice_index (level_vector_of l levels m) p

        better : (n : Places) → IsStable l n → nat_lt (slice_index (level_vector_of l levels n) p) level ≡ true → nat_lt (standing l.proposers n.proposers p) (standing l.proposers m.proposers p) ≡ true
        better n hn e = elim (lt_or_le (standing l.proposers n.proposers p) (standing l.proposers m.proposers p)) [
          | inl less ↦ lt-ltb (standing l.proposers n.proposers p) (standing l.proposers m.proposers p) less
          | inr more ↦ absurd (omega (arith, ltb-true (slice_index (level_vector_of l levels n) p) level e, at n p k, at m p k, no_greater m n p k hn more))
        ]

        no_worse : (n : Places) → IsStable l n → nat_le (standing l.proposers n.proposers p) (standing l.proposers m.proposers p) ≡ true → nat_le (slice_index (level_vector_of l levels n) p) level ≡ true
        no_worse n hn e = le-leb (slice_index (level_vector_of l levels n) p) level (omega (arith, at n p k, at m p k, no_greater n m p k hm (leb-true (standing l.proposers n.proposers p) (standing l.proposers m.proposers p) e)))

-- of two stable matchings with one level vector both are allowed or neither
pub vector_is_allowed : VectorIsAllowed
vector_is_allowed l levels forced forbidden m n h hm hn same allowed = record {
  holds = λ c k. across m n hm hn same (slice_index_or forced c (0, 0)).0 (slice_index_or forced c (0, 0)).1 (allowed.holds c k);
  avoids = λ c k v. allowed.avoids c k (across n m hn hm (sym same) (slice_index_or forbidden c (0, 0)).0 (slice_index_or forbidden c (0, 0)).1 v);
}
  where
    at : (o : Places) (p : ℕ) → p < length l.proposers → slice_index (level_vector_of l levels o) p ≡ level_of l levels o p
    at o p k = get_or-map-range_with_len (level_of l levels o) 0 (length l.proposers) p p 0 k (omega arith)

    across : (o q : Places) → IsStable l o → IsStable l q → level_vector_of l levels o ≡ level_vector_of l levels q → (p level : ℕ) → HasLevel levels o p level → HasLevel levels q p level
    across o q ho hq e p level v =
        let inside = held_in_range ho.matching.proposers p v.place v.holds in
        let stands = standing-some l.proposers o.proposers p v.place v.holds in
        let matched : standing l.proposers q.proposers p < length (row l.proposers p) = same_matched (stable_of h ho) (stable_of h hq) p (omega (arith, stands, ho.matching.proposers.on_list p v.place v.holds)) in
        let level_is : level_of l levels o p ≡ level = ap (slice_index (row levels p)) stands ∙ v.at_level in
        record {
          place = standing l.proposers q.proposers p;
          holds = held_at l.proposers q.proposers p matched;
          at_level = omega (arith, at o p inside, at q p inside, ap (λ w. slice_index w p) e, level_is);
        }

-- for closed sets of allowed stable matchings the rotations that enough of them have are those of an allowed one, whose level
-- vector is the median of theirs
pub median_of_listed : MedianOfListed
median_of_listed l first rotations levels forced forbidden sets holds h chain rising some all counts = (closed, stable, allowed, vectors)
  where
    all_closed : All (IsClosed l rotations) sets
    all_closed k d g = (all k d g).0

    median : IsMedian l (map (matching_of l first rotations) sets) (matching_of l first rotations (median_set holds (length sets)))
    median = many_median h chain some all_closed counts

    closed : IsClosed l rotations (median_set holds (length sets))
    closed = many_closed h chain some all_closed counts

    stable : IsStable l (matching_of l first rotations (median_set holds (length sets)))
    stable = set_stable h chain (median_set holds (length sets)) closed

    each_stable : All (IsStable l) (map (matching_of l first rotations) sets)
    each_stable = All-map (IsStable l) (matching_of l first rotations) sets (λ k d g. set_stable h chain (slice_index_or sets k d) (all k d g).0)

    each_allowed : All (λ n. IsStable l n × IsAllowed levels forced forbidden n) (map (matching_of l first rotations) sets)
    each_allowed = All-map (λ n. IsStable l n × IsAllowed levels forced forbidden n) (matching_of l first rotations) sets (λ k d g.
        let set_is_stable = set_stable h chain (slice_index_or sets k d) (all k d g).0 in
        let one = (all k d g).1 in
        (set_is_stable, vector_is_allowed l levels forced forbidden one.matching (matching_of l first rotations (slice_index_or sets k d)) h one.stable set_is_stable (sym one.vector) one.allowed))

    allowed : IsAllowed levels forced forbidden (matching_of l first rotations (median_set holds (length sets)))
    allowed = median_is_allowed l levels forced forbidden (map (matching_of l first rotations) sets) (matching_of l first rotations (median_set holds (length sets))) stable (omega (arith, some, length-map sets (matching_of l first rotations))) median each_allowed

    vectors : IsMedianVector (length l.proposers) (map (λ one. level_vector_of l levels (matching_of l first rotations one)) sets) (level_vector_of l levels (matching_of l first rotations (median_set holds (length sets))))
    vectors = rw (map_twice (level_vector_of l levels) (matching_of l first rotations) sets) at
        (median_of_vectors l levels (map (matching_of l first rotations) sets) (matching_of l first rotations (median_set holds (length sets))) h rising stable each_stable median)
