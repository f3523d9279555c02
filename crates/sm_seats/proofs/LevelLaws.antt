-- The levels of seats are the ranks of their reviewers.
use Rattle.std.proofs.Common.{◌≡◌, ℕ, ◌+◌, ◌<◌, ◌≤◌, length, get_or, sym, ap, ◌∙◌, arith, inl, inr}
use Rattle.std.proofs.lemmas.Bool.{cases_lt}
use Rattle.std.proofs.lemmas.List.FromFn.{get_or-map-range_with_len, length-map-range_with_len, fill_by_all}
use Rattle.sm_lists.proofs.RowLemmas.{row_in_range}
use Rattle.sm_agents.specs.Written.{Written, row as written_row, entry as written_entry, place_of as written_place_of}
use Rattle.sm_agents.specs.Faults.{HasSoundEntries}
use Rattle.sm_instance.specs.Matching.{standing as written_standing}
use Rattle.sm_instance.specs.Ranks.{rank_vector_of}
use Rattle.sm_market.specs.Lists.{row}
use Rattle.sm_market.specs.Matching.{Places, IsMatching}
use Rattle.sm_market.specs.Stable.{IsStable}
use Rattle.sm_theory.specs.Lattice.{with_proposers}
use Rattle.sm_theory.specs.Vectors.{AreLevels, level_of, level_vector_of}
use Rattle.sm_theory.proofs.Chains.Lattice.{levels_determine}
use Rattle.sm_seats.specs.SeatMarket.{seat_market}
use Rattle.sm_seats.specs.Seating.{seating_of, written_of, levels_at, levels_of}
use Rattle.sm_seats.specs.Taken.{places_taken}
use Rattle.sm_seats.specs.Correspondence.{AreLevelsOfSeats}
use Rattle.sm_seats.proofs.SeatingLemmas.{length-levels, level_is, level_last}
use Rattle.sm_seats.proofs.SeatLemmas.{row-seat}
use Rattle.sm_seats.proofs.SeatPlaces.{IsPlaced, seat_at_place, seat_on, places_order}
use Rattle.sm_seats.proofs.MarketLaws.{is_market, length-proposers}
use Rattle.sm_seats.proofs.WrittenLemmas.{row-seating, written_place-seating, written_there, seat_cases}
use Rattle.sm_seats.proofs.ForgetLaws.{stable_forgotten}
use Rattle.sm_seats.proofs.TakenLaws.{stable_taken, taken_forgotten}

-- the level of a seat is the rank of its reviewer
pub level_on : {w : Written} {p i r k : ℕ} → IsPlaced w p i r k → get_or (row (levels_of (seating_of w)) p) i 0 ≡ written_place_of w.proposers p r + 1
level_on {w} {p} {i} it = level_is (seating_of w) p i it.on ∙ ap (λ n. n + 1) (written_place-seating it)

-- and the last level that of being unmatched
pub level_past : (w : Written) (p : ℕ) → p < length (seat_market w).proposers → get_or (row (levels_of (seating_of w)) p) (length (row (seat_market w).proposers p)) 0 ≡ length (written_row w.proposers p) + 1
level_past w p here = level_last (seating_of w) p here ∙ ap (λ l. length l + 1) (row-seating w p)

module _ {w : Written} (h : HasSoundEntries w) where
  -- the levels of two places in their order
  level_order : (p i j r s k l : ℕ) → i < j → IsPlaced w p i r k → IsPlaced w p j s l → written_place_of w.proposers p r ≤ written_place_of w.proposers p s
  level_order p i j r s k l less a b = elim (cases_lt (written_place_of w.proposers p s) (written_place_of w.proposers p r)) [
    | inr le ↦ le
    | inl back ↦ absurd (omega (arith, places_order w b.mutual_ a.mutual_ back, a.is, b.is, b.below))
  ]

  -- levels never fall along a list
  pub are_levels : AreLevels (seat_market w) (levels_of (seating_of w))
  are_levels = record {
    one_each = length-map-range_with_len (levels_at (seating_of w)) 0 (length (seat_market w).proposers);
    per_place = length-levels (seating_of w);
    rising = λ p i j less on.
        let long = length-map-range_with_len (levels_at (seating_of w)) 0 (length (seat_market w).proposers) in
        let here' = row_in_range (levels_of (seating_of w)) p j on in
        let here : p < length (seat_market w).proposers = omega arith in
        let size = length-levels (seating_of w) p here in
        let a = seat_on h p i (omega arith) in
        elim (cases_lt j (length (row (seat_market w).proposers p))) [
          | inl inside ↦
              let b = seat_on h p j inside in
              omega (arith, level_on a.at, level_on b.at, level_order p i j a.reviewer b.reviewer a.number b.number less a.at b.at)
          | inr past ↦
              let j_is : j ≡ length (row (seat_market w).proposers p) = omega arith in
              let last = ap (λ n. get_or (row (levels_of (seating_of w)) p) n 0) j_is in
              omega (arith, level_on a.at, level_past w p here, last, a.at.mutual_.lists)
        ];
  }

  -- places of one level are seats of one reviewer
  pub same_reviewer : {p i j r s k l : ℕ} → IsPlaced w p i r k → IsPlaced w p j s l → get_or (row (levels_of (seating_of w)) p) i 0 ≡ get_or (row (levels_of (seating_of w)) p) j 0 → r ≡ s
  same_reviewer {p} {i} {j} {r} {s} a b same =
      let place : written_place_of w.proposers p r ≡ written_place_of w.proposers p s = omega (arith, level_on a, level_on b) in
      sym (written_there w a.mutual_) ∙ ap (written_entry w.proposers p) place ∙ written_there w b.mutual_

  -- and so have equal lists
  pub levels_alike : AreLevelsOfSeats (seating_of w)
  levels_alike p i j on on' same =
      let a = seat_on h p i on in
      let b = seat_on h p j on' in
      row-seat (seat_at_place a.at) ∙ ap (Rattle.sm_seats.specs.Mutual.mutual_row w.reviewers w.proposers) (same_reviewer a.at b.at same) ∙ sym (row-seat (seat_at_place b.at))

  -- the level at which a proposer stands is its rank in the instance
  pub stands_at_level : {m : Places} → IsMatching (seat_market w) m → (p : ℕ) → p < length (seat_market w).proposers
      → level_of (seat_market w) (levels_of (seating_of w)) m p ≡ written_standing w (written_of (seating_of w) m.proposers) p + 1
  stands_at_level {m} f p here = elim (seat_cases h f p) [
    | inl alone ↦ ap (λ n. get_or (row (levels_of (seating_of w)) p) n 0) alone.stands ∙ level_past w p here ∙ ap (λ n. n + 1) (sym alone.written_stands)
    | inr it ↦ ap (λ n. get_or (row (levels_of (seating_of w)) p) n 0) it.stands ∙ level_on it.at ∙ ap (λ n. n + 1) (sym it.written_stands)
  ]

  -- level vectors are rank vectors
  pub levels_are_ranks : {m : Places} → IsMatching (seat_market w) m → level_vector_of (seat_market w) (levels_of (seating_of w)) m ≡ rank_vector_of w (written_of (seating_of w) m.proposers)
  levels_are_ranks {m} f =
      let n = length (seat_market w).proposers in
      let level : ℕ → ℕ = level_of (seat_market w) (levels_of (seating_of w)) m in
      let size = length-proposers w in
      fill_by_all (λ p. written_standing w (written_of (seating_of w) m.proposers) p + 1) (level_vector_of (seat_market w) (levels_of (seating_of w)) m) (length w.proposers) 0
      (length-map-range_with_len level 0 n ∙ size)
      (λ p less. get_or-map-range_with_len level 0 n p p 0 (omega arith) (omega arith) ∙ stands_at_level f p (omega arith))

  -- two stable matchings of seats that are one in the instance are one
  pub one_seating : (m n : Places) → IsStable (seat_market w) m → IsStable (seat_market w) n → written_of (seating_of w) m.proposers ≡ written_of (seating_of w) n.proposers → m ≡ n
  one_seating m n hm hn same = levels_determine (seat_market w) (levels_of (seating_of w)) m n (is_market h) levels_alike hm hn
      (levels_are_ranks hm.matching ∙ ap (rank_vector_of w) same ∙ sym (levels_are_ranks hn.matching))

  -- in a stable matching of seats each reviewer's proposers sit in its order of preference
  pub taken_is : (m : Places) → IsStable (seat_market w) m → places_taken w (written_of (seating_of w) m.proposers) ≡ m.proposers
  taken_is m hm =
      let places = written_of (seating_of w) m.proposers in
      let s = stable_forgotten h hm in
      let n = with_proposers (seat_market w) (places_taken w places) in
      let e : n ≡ m = one_seating n m (stable_taken h places s) hm (taken_forgotten h places s.matching) in
      ap (λ (x : Places). x.proposers) e
