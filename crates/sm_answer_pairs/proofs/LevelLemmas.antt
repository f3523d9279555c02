-- The stable places of proposers by their levels in stable matchings of the seats, and the lines of these pairs.
use Rattle.std.proofs.Common.{◌≡◌, ℕ, ◌+◌, ◌-◌, ◌<◌, ◌==◌, ◌++◌, ◌∙◌, Bool, List, length, map, [], ◌∷◌, filter, get_or, unwrap_or, Option, Some, None, refl, sym, ap, subst, arith, inl, inr, Contains}
use Rattle.std.specs.List.Sorted.{IsStrictlyIncreasing}
use Rattle.std.specs.List.{flat_map, list_any, range_with_len}
use Rattle.std.specs.Prelude.{nat_le}
use Rattle.std.proofs.lemmas.List.{get_or_default, flat_map_more}
use Rattle.sm_lists.proofs.Counting.{lt_or_le}
use Rattle.std.proofs.lemmas.Bool.{le-leb, leb-true, eq-eqb, eqb-true}
use Rattle.std.proofs.lemmas.Simd.{map-map}
use Rattle.std.proofs.lemmas.List.Kept.{IsStrictlyIncreasing-filter}
use Rattle.sm_lists.specs.Rows.{row}
use Rattle.sm_lists.proofs.RowLemmas.{row_in_range as list_in_range}
use Rattle.sm_agents.specs.Written.{Written, row as written_row, entry}
use Rattle.sm_agents.proofs.ListLemmas.{row_in_range}
use Rattle.sm_report.specs.Heads.{HeadData}
use Rattle.sm_report.specs.Lines.{LineData}
use Rattle.sm_instance.specs.Matching.{held, standing}
use Rattle.sm_instance.specs.Stable.{IsStable}
use Rattle.sm_seats.specs.Seating.{Seating, written_of, levels_of}
use Rattle.sm_seats.specs.Correspondence.{IsSeating}
use Rattle.sm_seats.proofs.SeatingLaws.{stands_at}
use Rattle.sm_lists.proofs.RangeLemmas.{range_more}
use Rattle.sm_market.specs.Lists.{Lists}
use Rattle.sm_answer_pairs.specs.declared.pairs.StablePair.{StablePair}
use Rattle.sm_theory.specs.StablePlaces.{AreStableLevels}
use Rattle.sm_answer_pairs.specs.Partners.{IsStablePlace, IsFixedPlace}
use Rattle.sm_answer_pairs.specs.PairsAnswer.{partner_line, partner_lines, IsPairsAnswer}
use Rattle.sm_answer_pairs.specs.Found.{line_of_pair, pairs_given, places_of, pair_at, pairs_at_levels, pairs_by_levels, AreFromOne}
use Rattle.sm_answer_pairs.proofs.ListLemmas.{kept_in, kept_from, made_in, made_from, less_rises, found_in, is_found, kept_is, each_alike, made_of_each}

-- a proposer that stands on its list holds that place
held_at : (w : Written) (places : List (Option ℕ)) (p i : ℕ) → standing w places p ≡ i → i < length (written_row w.proposers p) → held places p ≡ Some i
held_at w places p i e on = choose (held places p) refl
  where
    choose : (o : Option ℕ) → held places p ≡ o → o ≡ Some i
    choose None h = absurd (let s = ap (λ o. unwrap_or o (length (written_row w.proposers p))) h in omega (arith, s, e, on))
    choose (Some k) h = let s = ap (λ o. unwrap_or o (length (written_row w.proposers p))) h in let same : k ≡ i = omega (arith, s, e) in ap (λ k. Some k) same

-- a stable matching of the instance in which p has a level
record HasLevelIn (w : Written) (p level : ℕ) : Type 0 where
  pub places : List (Option ℕ)
  pub stable : IsStable w places
  pub stands : standing w places p + 1 ≡ level

module _ {w : Written} {s : Seating} (h : IsSeating w s) {rows : List (List ℕ)} (a : AreStableLevels s.market (levels_of s) rows) (p : ℕ) (here : p < length w.proposers) where
  there : p < length s.market.proposers
  there = let e = h.proposers in omega (arith, e, here)

  -- each level is that of some matching
  level_in : (level : ℕ) → Contains (row rows p) level → HasLevelIn w p level
  level_in level c =
      let x = ((a.of p there).exact level).0 c in
      record { places = written_of s x.matching.proposers; stable = h.forgotten x.matching x.stable; stands = sym (stands_at h x.stable p here) ∙ x.at_level }

  -- and that of each matching is there
  level_of_each : (places : List (Option ℕ)) → IsStable w places → Contains (row rows p) (standing w places p + 1)
  level_of_each places st =
      let n = h.seated places st in
      ((a.of p there).exact (standing w places p + 1)).1
      (record { matching = n.matching; stable = n.stable; at_level = stands_at h n.stable p here ∙ ap (λ x. standing w x p + 1) n.forgets })

  at : (k : ℕ) → k < length (row rows p) → Contains (row rows p) (get_or (row rows p) k 0)
  at k l = (k, l, get_or_same)
    where
      get_or_same : get_or (row rows p) k (get_or (row rows p) k 0) ≡ get_or (row rows p) k 0
      get_or_same = get_or_default (row rows p) k (get_or (row rows p) k 0) 0 l

  -- levels count from 1
  pub some_levels : (k : ℕ) → k < length (row rows p) → 0 < get_or (row rows p) k 0
  some_levels k l = let x = level_in (get_or (row rows p) k 0) (at k l) in let e = x.stands in omega (arith, e)

  -- so the places are those of stable partners
  pub place_from : (i : ℕ) → Contains (places_of w p (row rows p)) i → IsStablePlace w p i
  place_from i c =
      let m = made_from (λ level. level - 1) _ i c in
      let k = kept_from (λ level. nat_le level (length (written_row w.proposers p))) (row rows p) m.from m.there in
      let x = level_in m.from k.0 in
      let low = leb-true m.from (length (written_row w.proposers p)) k.1 in
      let e = x.stands in
      let made = m.made in
      record { places = x.places; stable = x.stable; holds = held_at w x.places p i (omega (arith, e, made)) (omega (arith, e, made, low)) }

  -- and the places of stable partners are there
  pub place_in : (i : ℕ) → IsStablePlace w p i → Contains (places_of w p (row rows p)) i
  place_in i x =
      let stands : standing w x.places p ≡ i = ap (λ o. unwrap_or o (length (written_row w.proposers p))) x.holds in
      let on = x.stable.matching.assigned.on_lists p i x.holds in
      let c : Contains (row rows p) (i + 1) = subst (λ k. Contains (row rows p) (k + 1)) stands (level_of_each x.places x.stable) in
      subst (Contains (places_of w p (row rows p))) (let e : i + 1 - 1 ≡ i = omega arith in e)
      (made_in (λ level. level - 1) _ (i + 1) (kept_in (λ level. nat_le level (length (written_row w.proposers p))) (row rows p) (i + 1) c (le-leb (i + 1) (length (written_row w.proposers p)) (omega (arith, on)))))

  -- the places rise
  pub places_rise : IsStrictlyIncreasing (places_of w p (row rows p))
  places_rise =
      let kept = filter (λ level. nat_le level (length (written_row w.proposers p))) (row rows p) in
      less_rises kept (λ k l. let c = kept_from (λ level. nat_le level (length (written_row w.proposers p))) (row rows p) (get_or kept k 0) (k, l, get_or_default kept k (get_or kept k 0) 0 l) in
      let x = level_in (get_or kept k 0) c.0 in let e = x.stands in omega (arith, e))
      (IsStrictlyIncreasing-filter (λ level. nat_le level (length (written_row w.proposers p))) (row rows p) (λ k l. (a.of p there).rising k (k + 1) (omega arith) l))

  -- and one level is one place in all of them
  pub one_fixed : (i : ℕ) → Contains (places_of w p (row rows p)) i → length (row rows p) ≡ 1 → IsFixedPlace w p i
  one_fixed i c one places st =
      let x = place_from i c in
      let stands : standing w x.places p ≡ i = ap (λ o. unwrap_or o (length (written_row w.proposers p))) x.holds in
      let mine = level_of_each x.places x.stable in
      let other = level_of_each places st in
      let same : standing w places p ≡ i = omega (arith, only mine one, only other one, stands) in
      held_at w places p i same (x.stable.matching.assigned.on_lists p i x.holds)
    where
      only : {y : ℕ} → Contains (row rows p) y → length (row rows p) ≡ 1 → get_or (row rows p) 0 0 ≡ y
      only {y} c one = let zero : c.0 ≡ 0 = (let l = c.1 in omega (arith, l, one)) in
          get_or_default (row rows p) 0 0 y (omega (arith, one)) ∙ ap (λ k. get_or (row rows p) k y) (sym zero) ∙ c.2

  -- where one place is held in all of them, there is one level
  pub fixed_one : (i : ℕ) → Contains (places_of w p (row rows p)) i → IsFixedPlace w p i → length (row rows p) ≡ 1
  fixed_one i c fixed = elim (lt_or_le 1 (length (row rows p))) [
    | inl two ↦ absurd (
        let x = level_in (get_or (row rows p) 0 0) (at 0 (omega arith)) in
        let y = level_in (get_or (row rows p) 1 0) (at 1 two) in
        let sx : standing w x.places p ≡ i = ap (λ o. unwrap_or o (length (written_row w.proposers p))) (fixed x.places x.stable) in
        let sy : standing w y.places p ≡ i = ap (λ o. unwrap_or o (length (written_row w.proposers p))) (fixed y.places y.stable) in
        let up = (a.of p there).rising 0 1 (omega arith) two in
        let ex = x.stands in
        let ey = y.stands in
        omega (arith, sx, sy, up, ex, ey))
    | inr few ↦
        let x = place_from i c in
        let z = level_of_each x.places x.stable in
        let l = z.1 in
        omega (arith, few, l)
  ]

-- a proposer that has a stable partner is one of the instance
named : {w : Written} {p i : ℕ} → IsStablePlace w p i → p < length w.proposers
named {w} {p} {i} x = row_in_range w.proposers p _ (x.stable.matching.acceptable p i x.holds).proposer_lists

-- and so is one that has levels
leveled_named : {w : Written} {s : Seating} (h : IsSeating w s) {rows : List (List ℕ)} → AreStableLevels s.market (levels_of s) rows → (p i : ℕ) → Contains (places_of w p (row rows p)) i → p < length w.proposers
leveled_named {w} {s} h {rows} a p i c =
    let m = made_from (λ level. level - 1) _ i c in
    let k = kept_from (λ level. nat_le level (length (written_row w.proposers p))) (row rows p) m.from m.there in
    let l = list_in_range rows p k.0.0 k.0.1 in
    let one = a.one_each in
    let e = h.proposers in
    omega (arith, l, one, e)

-- the lines of the pairs that are found are the answer
pub pairs_right : {w : Written} {s : Seating} (h : IsSeating w s) {rows : List (List ℕ)} → AreStableLevels s.market (levels_of s) rows → IsPairsAnswer w (pairs_given (pairs_by_levels w rows (length w.proposers)))
pairs_right {w} {s} h {rows} a =
    let n = length w.proposers in
    let places : ℕ → List ℕ = λ p. places_of w p (row rows p) in
    let is_stable : ℕ → ℕ → Bool = λ p i. list_any (λ x. x == i) (places p) in
    let is_fixed : ℕ → ℕ → Bool = λ p i. length (row rows p) == 1 in
    let at_levels : ℕ → List StablePair = λ p. pairs_at_levels w (length (row rows p) == 1) p (row rows p) in
    record {
      is_stable = is_stable;
      is_fixed = is_fixed;
      stable = λ p i. (
        (λ t. let c = found_in (places p) i t in place_from h a p (leveled_named h a p i c) i c),
        λ x. is_found (places p) i (place_in h a p (named x) i x),
      );
      fixed = λ p i x.
          let c = place_in h a p (named x) i x in
          (λ t. one_fixed h a p (named x) i c (eqb-true (length (row rows p)) 1 t), λ f. eq-eqb (length (row rows p)) 1 (fixed_one h a p (named x) i c f));
      shows = ap (λ lines. LineData.Answer HeadData.Pairs ∷ (lines ++ LineData.End ∷ [])) (
          made_of_each line_of_pair at_levels (range_with_len 0 n)
          ∙ each_alike (λ p. map line_of_pair (at_levels p)) (partner_lines w is_stable is_fixed) 0 n (λ p z l.
          let here : p < n = omega (arith, l) in
          map-map line_of_pair (pair_at w (length (row rows p) == 1) p) (places p)
          ∙ ap (map (λ i. partner_line (length (row rows p) == 1) p (entry w.proposers p i))) (sym (kept_is (is_stable p) 0 (length (written_row w.proposers p)) (places p) (record {
            rising = places_rise h a p here;
            has = λ i _ t. found_in (places p) i t;
            from = λ i c. omega arith;
            below = λ i c. let x = place_from h a p here i c in let on = x.stable.matching.assigned.on_lists p i x.holds in omega (arith, on);
            passes = λ i c. is_found (places p) i c;
          })))));
    }

-- levels of stable matchings begin at 1
pub are_from_one : {w : Written} {s : Seating} (h : IsSeating w s) {rows : List (List ℕ)} (a : AreStableLevels s.market (levels_of s) rows) (p : ℕ) → p < length w.proposers → AreFromOne (row rows p)
are_from_one h a p here k l = some_levels h a p here k l

-- from what a poset of the seats says
pub levels_of_seats : (s : Seating) (l : Lists) (levels rows : List (List ℕ)) → l ≡ s.market → levels ≡ levels_of s → AreStableLevels l levels rows → AreStableLevels s.market (levels_of s) rows
levels_of_seats s l levels rows same is a = subst (λ l. AreStableLevels l (levels_of s) rows) same (subst (λ x. AreStableLevels l x rows) is a)

-- one proposer more
pub pairs_more : (w : Written) (rows : List (List ℕ)) (n : ℕ) (levels : List ℕ) → levels ≡ row rows n
    → pairs_by_levels w rows n ++ pairs_at_levels w (length levels == 1) n levels ≡ pairs_by_levels w rows (n + 1)
pairs_more w rows n levels is =
    let f : ℕ → List StablePair = λ p. pairs_at_levels w (length (row rows p) == 1) p (row rows p) in
    ap (λ xs. pairs_by_levels w rows n ++ pairs_at_levels w (length xs == 1) n xs) is
    ∙ flat_map_more f [] (range_with_len 0 n) n
    ∙ ap (flat_map f) (sym (range_more 0 n n (omega arith)))
