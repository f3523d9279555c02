-- A stable matching of seats is a stable matching of the instance, once seat numbers are forgotten.
use Rattle.std.proofs.Common.{◌≡◌, ℕ, ◌+◌, ◌-◌, ◌<◌, ◌≤◌, false, List, Option, length, get_or, refl, sym, ap, ◌∙◌, arith, inl, inr}
use Rattle.std.proofs.lemmas.Bool.{cases_lt, cases_Bool}
use Rattle.std.proofs.lemmas.Option.{none-some, same_Some}
use Rattle.sm_lists.specs.Rows.{place_on}
use Rattle.sm_lists.proofs.Counting.{one_to_one-le, search_below, Decided-le}
use Rattle.sm_lists.proofs.PlaceLemmas.{get_or-place_on}
use Rattle.sm_agents.specs.Written.{Written, row as written_row, entry as written_entry, place_of as written_place_of}
use Rattle.sm_agents.specs.Faults.{HasSoundEntries}
use Rattle.sm_instance.specs.Matching.{held, standing as written_standing, is_at, IsAssignment, IsMatching as IsWrittenMatching}
use Rattle.sm_instance.specs.Stable.{Blocks, IsStable as IsWrittenStable}
use Rattle.sm_instance.proofs.LoadLemmas.{place_at, at_place}
use Rattle.sm_instance.proofs.PlaceLemmas.{place_of-entry}
use Rattle.sm_market.specs.Lists.{row, entry, place_of}
use Rattle.sm_market.specs.Matching.{Places, standing, IsMatching}
use Rattle.sm_market.specs.Stable.{IsStable}
use Rattle.sm_market.proofs.Core.{Stable, Pair, pair_of', one_proposer, one_reviewer as same_seat}
use Rattle.sm_market.proofs.Bridge.{sides_of, stand_of, fit_of, stable_of}
use Rattle.sm_seats.specs.SeatMarket.{seat_count, seats_before, seat_market}
use Rattle.sm_seats.specs.Seating.{seating_of, written_of}
use Rattle.sm_seats.specs.Taken.{seated}
use Rattle.sm_seats.proofs.MutualLemmas.{IsMutual, mutual_turned, acceptable_mutual, mutual_acceptable, mutual_on_row, order_kept}
use Rattle.sm_seats.proofs.SeatLemmas.{IsSeatOf, seat_count-le-capacity}
use Rattle.sm_seats.proofs.SeatPlaces.{placed, seat_place, places_order}
use Rattle.sm_seats.proofs.MarketLaws.{is_market, place_of-seat_market, length-list}
use Rattle.sm_seats.proofs.LoadLaws.{AreAcceptable, item_at, seated_distinct, sits, length-seated, seated-lt-row}
use Rattle.sm_seats.proofs.WrittenLemmas.{written_there, length-written, SitsAt, seat_cases, sits_at, at_seat}

module _ {w : Written} (h : HasSoundEntries w) {m : Places} (f : IsMatching (seat_market w) m) where
  -- each place that is left is on its list
  pub forgotten_assigned : IsAssignment w (written_of (seating_of w) m.proposers)
  forgotten_assigned = record {
    one_each = length-written w m.proposers;
    on_lists = λ p i e. elim (seat_cases h f p) [
      | inl alone ↦ absurd (none-some _ (sym alone.written_held_is ∙ e))
      | inr it ↦ omega (arith, same_Some _ _ (sym it.written_held_is ∙ e), it.at.mutual_.lists)
    ];
  }

  -- and names a reviewer that is acceptable
  pub forgotten_acceptable : AreAcceptable w (written_of (seating_of w) m.proposers)
  forgotten_acceptable p i e = elim (seat_cases h f p) [
    | inl alone ↦ absurd (none-some _ (sym alone.written_held_is ∙ e))
    | inr it ↦ rw (sym (ap (written_entry w.proposers p) (same_Some _ _ (sym e ∙ it.written_held_is)) ∙ written_there w it.at.mutual_)) at (mutual_acceptable {w = w} it.at.mutual_)
  ]

  -- the number, at r, of the seat of the i-th of its proposers
  number_of : (r i : ℕ) → ℕ
  number_of r i = entry (seat_market w).proposers (get_or (seated w (written_of (seating_of w) m.proposers) r) i 0) (standing (seat_market w).proposers m.proposers (get_or (seated w (written_of (seating_of w) m.proposers) r) i 0)) - seats_before w r

  sitting : (r i : ℕ) → i < length (seated w (written_of (seating_of w) m.proposers) r) → SitsAt w h m (get_or (seated w (written_of (seating_of w) m.proposers) r) i 0) r
  sitting r i on = sits_at h f (get_or (seated w (written_of (seating_of w) m.proposers) r) i 0) r (item_at w (written_of (seating_of w) m.proposers) r i on)

  number_is : (r i : ℕ) (on : i < length (seated w (written_of (seating_of w) m.proposers) r)) → number_of r i ≡ (sitting r i on).number
  unfolding number_of
  number_is r i on =
      let it = sitting r i on in
      let q = get_or (seated w (written_of (seating_of w) m.proposers) r) i 0 in
      let seat : entry (seat_market w).proposers q (standing (seat_market w).proposers m.proposers q) ≡ seats_before w r + it.number =
      ap (entry (seat_market w).proposers q) (sym it.pair.place_is) ∙ (sides_of (seat_market w) (is_market h)).left.at_place q (seats_before w r + it.number) (omega (arith, it.pair.place_is, it.pair.matched)) in
      omega (arith, seat)

  -- nobody has more proposers than seats
  pub seated-le-count : (r : ℕ) → length (seated w (written_of (seating_of w) m.proposers) r) ≤ seat_count w r
  seated-le-count r = one_to_one-le (length (seated w (written_of (seating_of w) m.proposers) r)) (seat_count w r) (number_of r)
      (λ i on. omega (arith, number_is r i on, (sitting r i on).below))
      (λ i j less on same.
      let on' : i < length (seated w (written_of (seating_of w) m.proposers) r) = omega arith in
      let a = sitting r i on' in
      let b = sitting r j on in
      let number : a.number ≡ b.number = sym (number_is r i on') ∙ same ∙ number_is r j on in
      (seated_distinct h (written_of (seating_of w) m.proposers) r).distinct i j less on (one_proposer (rw number at a.pair) b.pair))

  -- so what is left is a matching
  pub forgotten_matching : IsWrittenMatching w (written_of (seating_of w) m.proposers)
  forgotten_matching = record {
    assigned = forgotten_assigned;
    acceptable = forgotten_acceptable;
    within = λ r. omega (arith, length-seated h (written_of (seating_of w) m.proposers) forgotten_acceptable r, seated-le-count r, seat_count-le-capacity w r);
  }

  -- a seat of r that nobody has
  record IsFree (r : ℕ) : Type 0 where
    number : ℕ
    below : number < seat_count w r
    free : length (row (seat_market w).reviewers (seats_before w r + number)) ≤ standing (seat_market w).reviewers m.reviewers (seats_before w r + number)

  free_seat : (r : ℕ) → length (seated w (written_of (seating_of w) m.proposers) r) < seat_count w r → IsFree r
  free_seat r fewer =
      let fit = fit_of (is_market h) f in
      let len : ℕ → ℕ = λ k. length (row (seat_market w).reviewers (seats_before w r + k)) in
      let at : ℕ → ℕ = λ k. standing (seat_market w).reviewers m.reviewers (seats_before w r + k) in
      elim (search_below (seat_count w r) (λ k. len k ≤ at k) (λ k _. Decided-le (len k) (at k))) [
        | inl first ↦ record { number = first.at; below = first.below; free = first.holds }
        | inr none ↦ absurd (
            let holder : ℕ → ℕ = λ k. entry (seat_market w).reviewers (seats_before w r + k) (at k) in
            let pair : (k : ℕ) → k < seat_count w r → Pair (sides_of (seat_market w) (is_market h)) (stand_of (seat_market w) m) (holder k) (seats_before w r + k) =
            λ k l. pair_of' {s = sides_of (seat_market w) (is_market h)} {m = stand_of (seat_market w) m} (seats_before w r + k) fit (elim (cases_lt (at k) (len k)) [ inl less ↦ less | inr le ↦ absurd (none k l le) ]) in
            let here : (k : ℕ) → k < seat_count w r → place_on (seated w (written_of (seating_of w) m.proposers) r) (holder k) < length (seated w (written_of (seating_of w) m.proposers) r) =
            λ k l. sits h (written_of (seating_of w) m.proposers) forgotten_acceptable (holder k) r (at_seat h f (holder k) (seats_before w r + k) r k (pair k l) (record { is = refl; below = l })) in
            let le = one_to_one-le (seat_count w r) (length (seated w (written_of (seating_of w) m.proposers) r)) (λ k. place_on (seated w (written_of (seating_of w) m.proposers) r) (holder k)) here
            (λ i j less l same.
            let l' : i < seat_count w r = omega arith in
            let who : holder i ≡ holder j =
            sym (get_or-place_on (seated w (written_of (seating_of w) m.proposers) r) (holder i) (here i l')) ∙ ap (λ k. get_or (seated w (written_of (seating_of w) m.proposers) r) k 0) same
            ∙ get_or-place_on (seated w (written_of (seating_of w) m.proposers) r) (holder j) (here j l) in
            let seat : seats_before w r + i ≡ seats_before w r + j = same_seat (rw who at (pair i l')) (pair j l) in
            omega arith) in
            omega arith)
      ]

-- p would rather have a seat of r than the one that it has, where it would rather have r on its written list
module _ {w : Written} (h : HasSoundEntries w) {m : Places} (f : IsMatching (seat_market w) m) where
  -- a seat of a reviewer that p would rather have stands before the seat that p has
  pub gains_seat : (p r k : ℕ) → IsMutual w.proposers w.reviewers p r → k < seat_count w r → written_place_of w.proposers p r < written_standing w (written_of (seating_of w) m.proposers) p
      → place_of (seat_market w).proposers p (seats_before w r + k) < standing (seat_market w).proposers m.proposers p
  gains_seat p r k both below gains =
      let there = placed {w = w} {p = p} {r = r} {k = k} both below in
      let place = seat_place h both below in
      elim (seat_cases h f p) [
        | inl alone ↦ omega (arith, alone.stands, there.on, place)
        | inr it ↦
            let order = places_order w both it.at.mutual_ (omega (arith, it.written_stands, gains)) in
            omega (arith, it.stands, it.at.is, place)
      ]

  -- who isn't at r where it would rather be
  pub not_there : (p r : ℕ) → written_place_of w.proposers p r < written_standing w (written_of (seating_of w) m.proposers) p → is_at w (written_of (seating_of w) m.proposers) p r ≡ false
  not_there p r gains = elim (cases_Bool (is_at w (written_of (seating_of w) m.proposers) p r)) [
    | inr no_ ↦ no_
    | inl at ↦
        let x = place_at w p r (held (written_of (seating_of w) m.proposers) p) at in
        let stands : written_standing w (written_of (seating_of w) m.proposers) p ≡ x.0 = ap (λ o. Rattle.std.proofs.Common.unwrap_or o (length (written_row w.proposers p))) x.1 in
        absurd (omega (arith, place_of-entry h.proposers p r x.0 ((forgotten_assigned h f).on_lists p x.0 x.1) x.2, stands, gains))
  ]

-- a stable one, where the matching of seats is
pub stable_forgotten : {w : Written} (h : HasSoundEntries w) {m : Places} → IsStable (seat_market w) m → IsWrittenStable w (written_of (seating_of w) m.proposers)
stable_forgotten {w} h {m} s = record { matching = forgotten_matching h s.matching; unblocked = unblocked }
  where
    places : List (Option ℕ)
    places = written_of (seating_of w) m.proposers

    core : Stable (sides_of (seat_market w) (is_market h)) (stand_of (seat_market w) m)
    core = stable_of (is_market h) s

    -- r would rather have p at its k-th seat
    blocked : (p r k : ℕ) → IsMutual w.proposers w.reviewers p r → k < seat_count w r → written_place_of w.proposers p r < written_standing w (written_of (seating_of w) m.proposers) p
        → place_of (seat_market w).reviewers (seats_before w r + k) p < standing (seat_market w).reviewers m.reviewers (seats_before w r + k) → ⊥
    blocked p r k both below better gains =
        let there = placed {w = w} {p = p} {r = r} {k = k} both below in
        core.unblocked p (seats_before w r + k) (omega (arith, seat_place h both below, there.on)) (gains_seat h s.matching p r k both below better) gains

    unblocked : (p r : ℕ) → ¬ Blocks w (written_of (seating_of w) m.proposers) p r
    unblocked p r b = elim b.reviewer_gains [
      | inl free ↦
          let fewer = seated-lt-row w (written_of (seating_of w) m.proposers) {r = r} {p = p} (mutual_turned both) (not_there h s.matching p r b.proposer_gains) in
          let loaded = length-seated h (written_of (seating_of w) m.proposers) (forgotten_acceptable h s.matching) r in
          let seat = free_seat h s.matching r (omega arith) in
          let of : IsSeatOf w (seats_before w r + seat.number) r seat.number = record { is = refl; below = seat.below } in
          blocked p r seat.number both seat.below b.proposer_gains
          (omega (arith, place_of-seat_market of p, length-list of, mutual_on_row (mutual_turned both), seat.free))
      | inr worse ↦
          let at = at_place w (written_of (seating_of w) m.proposers) worse.other r worse.at worse.holds worse.there in
          let it = sits_at h s.matching worse.other r at in
          let of : IsSeatOf w (seats_before w r + it.number) r it.number = record { is = refl; below = it.below } in
          blocked p r it.number both it.below b.proposer_gains
          (omega (arith, place_of-seat_market of p, place_of-seat_market of worse.other, order_kept (mutual_turned both) (mutual_turned it.mutual_) worse.worse, it.pair.rank_is))
    ]
      where
        both : IsMutual w.proposers w.reviewers p r
        both = acceptable_mutual {w = w} b.acceptable
