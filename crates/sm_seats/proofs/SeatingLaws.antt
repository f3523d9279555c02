-- What the commands need of a seating: whom its places name, in which order, and the best matchings of both sides.
use Rattle.std.proofs.Common.{◌≡◌, ℕ, ◌+◌, ◌-◌, ◌<◌, ◌≤◌, List, Option, None, length, get_or, unwrap_or, sym, ap, ◌∙◌, subst, arith, inl, inr}
use Rattle.std.proofs.lemmas.Bool.{cases_lt, cases_eq}
use Rattle.std.proofs.lemmas.List.{get_or_past}
use Rattle.std.proofs.lemmas.List.FromFn.{get_or-map-range_with_len}
use Rattle.sm_lists.proofs.PlaceLemmas.{get_or-place_on}
use Rattle.sm_lists.proofs.RowLemmas.{row_in_range}
use Rattle.sm_agents.specs.Written.{AgentData, Written, no_agent, row as written_row, entry as written_entry}
use Rattle.sm_instance.specs.Matching.{held as written_held, standing as written_standing}
use Rattle.sm_instance.specs.Stable.{IsStable as IsWrittenStable, IsProposersBest as IsWrittenProposersBest, IsReviewersBest as IsWrittenReviewersBest}
use Rattle.sm_market.specs.Lists.{row, entry}
use Rattle.sm_market.specs.Matching.{Places, standing}
use Rattle.sm_market.specs.Stable.{IsStable, IsProposersBest, IsReviewersBest}
use Rattle.sm_market.proofs.Bridge.{held_cases}
use Rattle.sm_theory.specs.Vectors.{level_of}
use Rattle.sm_seats.specs.Seating.{Seating, reviewer_of, written_place, written_of, levels_of}
use Rattle.sm_seats.specs.Correspondence.{IsSeating}
use Rattle.sm_seats.proofs.SeatingLemmas.{length-levels, level_is, place_read}
use Rattle.sm_seats.proofs.WrittenLemmas.{row-seating}

-- a proposer that isn't there stands at 0
past_stands : {w : Written} {places : List (Option ℕ)} → IsWrittenStable w places → (p : ℕ) → length w.proposers ≤ p → written_standing w places p ≡ 0
past_stands {w} {places} st p past =
    let none : written_held places p ≡ None = get_or_past places p None (let e = st.matching.assigned.one_each in omega arith) in
    let empty : length (written_row w.proposers p) ≡ 0 = ap (λ (x : AgentData). length x.entries) (get_or_past w.proposers p no_agent past) in
    ap (λ o. unwrap_or o (length (written_row w.proposers p))) none ∙ empty

module _ {w : Written} {s : Seating} (h : IsSeating w s) where
  -- the lists of a seating are those of the instance
  pub list_of : (p : ℕ) → row s.lists p ≡ written_row w.proposers p
  list_of p = ap (λ (l : List (List ℕ)). row l p) h.lists ∙ row-seating w p

  -- a place of the market stands for one of the written list, at which its seat's reviewer is named
  pub written_on : (p i : ℕ) → i < length (row s.market.proposers p) → written_place s p i < length (written_row w.proposers p)
  written_on p i on = (let long = ap (λ (l : List ℕ). length l) (list_of p) in let below = h.on_lists p i on in omega arith)

  -- it is one less than the level
  pub level_on_list : (p i : ℕ) {levels : List ℕ} → levels ≡ row (levels_of s) p → i < length (row s.market.proposers p) → get_or levels i 0 - 1 < length (written_row w.proposers p)
  level_on_list p i same on = omega (arith, place_read s p i same on, written_on p i on)

  -- at that written place the seat's reviewer is named
  pub written_names : (p i : ℕ) → i < length (row s.market.proposers p) → written_entry w.proposers p (written_place s p i) ≡ reviewer_of s (entry s.market.proposers p i)
  written_names p i on =
      ap (λ (l : List ℕ). get_or l (written_place s p i) 0) (sym (list_of p)) ∙ get_or-place_on (row s.lists p) (reviewer_of s (entry s.market.proposers p i)) (h.on_lists p i on)

  -- and no later one stands for an earlier one
  pub rises : (p i j : ℕ) → i ≤ j → j < length (row s.market.proposers p) → written_place s p i ≤ written_place s p j
  rises p i j le on = elim (cases_eq i j) [
    | inl same ↦ (let e = ap (written_place s p) same in omega arith)
    | inr other ↦
        let long = length-levels s p (row_in_range s.market.proposers p j on) in
        let up = h.levels.rising p i j (omega arith) (omega arith) in
        omega (arith, level_is s p i (omega arith), level_is s p j on)
  ]

  -- the level at which a proposer stands in a stable matching is its rank in the instance
  pub stands_at : {m : Places} → IsStable s.market m → (p : ℕ) → p < length w.proposers → level_of s.market (levels_of s) m p ≡ written_standing w (written_of s m.proposers) p + 1
  stands_at {m} st p here =
      let size = h.proposers in
      sym (get_or-map-range_with_len (level_of s.market (levels_of s) m) 0 (length s.market.proposers) p p 0 (omega arith) (omega arith))
      ∙ ap (λ (v : List ℕ). get_or v p 0) (h.ranks m st.matching)
      ∙ get_or-map-range_with_len (λ p. written_standing w (written_of s m.proposers) p + 1) 0 (length w.proposers) p p 0 here (omega arith)

  -- who stands as well at the seats stands as well in the instance
  pub as_well : {m n : Places} → IsStable s.market m → IsStable s.market n → (p : ℕ) → standing s.market.proposers m.proposers p ≤ standing s.market.proposers n.proposers p
      → written_standing w (written_of s m.proposers) p ≤ written_standing w (written_of s n.proposers) p
  as_well {m} {n} hm hn p le = elim (cases_lt p (length w.proposers)) [
    | inr past ↦ omega (arith, past_stands (h.forgotten m hm) p past, past_stands (h.forgotten n hn) p past)
    | inl here ↦
        let size = h.proposers in
        let a = standing s.market.proposers m.proposers p in
        let b = standing s.market.proposers n.proposers p in
        let levels : get_or (row (levels_of s) p) a 0 ≤ get_or (row (levels_of s) p) b 0 = elim (cases_eq a b) [
          | inl same ↦ (let e = ap (λ i. get_or (row (levels_of s) p) i 0) same in omega arith)
          | inr other ↦
              let long = length-levels s p (omega arith) in
              let within : b ≤ length (row s.market.proposers p) = elim (held_cases s.market.proposers n.proposers p) [
                | inl alone ↦ omega (arith, alone.standing_is)
                | inr has ↦ omega (arith, has.standing_is, hn.matching.proposers.on_list p has.place has.held_is)
              ] in
              h.levels.rising p a b (omega arith) (omega arith)
        ] in
        omega (arith, stands_at hm p here, stands_at hn p here)
  ]

  -- the proposers' best matching of the seats is that of the instance
  pub proposers_best : {m : Places} → IsProposersBest s.market m → IsWrittenProposersBest w (written_of s m.proposers)
  proposers_best {m} b = record {
    stable = h.forgotten m b.stable;
    best = λ others st p.
        let n = h.seated others st in
        subst (λ (x : List (Option ℕ)). written_standing w (written_of s m.proposers) p ≤ written_standing w x p) n.forgets (as_well b.stable n.stable p (b.best n.matching n.stable p));
  }

  -- and so is the reviewers' best
  pub reviewers_best : {m : Places} → IsReviewersBest s.market m → IsWrittenReviewersBest w (written_of s m.proposers)
  reviewers_best {m} b = record {
    stable = h.forgotten m b.stable;
    worst = λ others st p.
        let n = h.seated others st in
        subst (λ (x : List (Option ℕ)). written_standing w x p ≤ written_standing w (written_of s m.proposers) p) n.forgets (as_well n.stable b.stable p (b.worst n.matching n.stable p));
  }
