-- The seats of an instance make a market.
use Rattle.std.proofs.Common.{◌≡◌, ℕ, length, get_or, ap, ◌∙◌, arith}
use Rattle.std.proofs.lemmas.List.FromFn.{length-map-range_with_len}
use Rattle.sm_lists.specs.Rows.{place_on}
use Rattle.sm_agents.specs.Written.{Written}
use Rattle.sm_agents.specs.Faults.{HasSoundEntries}
use Rattle.sm_agents.proofs.ListLemmas.{row_in_range}
use Rattle.sm_market.specs.Lists.{row, entry, place_of, AreMutual, IsMarket}
use Rattle.sm_seats.specs.Mutual.{mutual_row}
use Rattle.sm_seats.specs.SeatMarket.{seat_row, seat_market}
use Rattle.sm_seats.proofs.MutualLemmas.{mutual_turned, mutual_on_row, entry_mutual, mutual_distinct}
use Rattle.sm_seats.proofs.SeatLemmas.{IsSeatOf, one_reviewer, one_number, length-reviewers, seat_there, row-seat, listed_seat}
use Rattle.sm_seats.proofs.SeatPlaces.{first_place, placed, seat_at_place, seat_on, place_is}

-- the market has the proposers of the instance
pub length-proposers : (w : Written) → length (seat_market w).proposers ≡ length w.proposers
length-proposers w = length-map-range_with_len (seat_row w) 0 (length w.proposers)

-- the place of p on the list of a seat
pub place_of-seat_market : {w : Written} {seat r k : ℕ} → IsSeatOf w seat r k → (p : ℕ) → place_of (seat_market w).reviewers seat p ≡ place_on (mutual_row w.reviewers w.proposers r) p
place_of-seat_market s p = ap (λ l. place_on l p) (row-seat s)

-- and how long that list is
pub length-list : {w : Written} {seat r k : ℕ} → IsSeatOf w seat r k → length (row (seat_market w).reviewers seat) ≡ length (mutual_row w.reviewers w.proposers r)
length-list s = ap length (row-seat s)

module _ {w : Written} (h : HasSoundEntries w) where
  proposers_mutual : AreMutual (seat_market w).proposers (seat_market w).reviewers
  proposers_mutual = record {
    in_range = λ p i on.
        let it = seat_on h p i on in
        let there = seat_there (seat_at_place it.at) in
        omega (arith, length-reviewers w);
    distinct = λ p i j less on same.
        let one = seat_on h p i (omega arith) in
        let two = seat_on h p j on in
        let b : IsSeatOf w (entry (seat_market w).proposers p i) two.reviewer two.number = record { is = same ∙ two.at.names; below = two.at.below } in
        let r_is = ap (first_place w p) (one_reviewer (seat_at_place one.at) b) in
        let k_is = one_number (seat_at_place one.at) b in
        omega (arith, one.at.is, two.at.is);
    returned = λ p i on.
        let it = seat_on h p i on in
        let s = seat_at_place it.at in
        omega (arith, place_of-seat_market s p, length-list s, mutual_on_row (mutual_turned it.at.mutual_));
  }

  reviewers_mutual : AreMutual (seat_market w).reviewers (seat_market w).proposers
  reviewers_mutual = record {
    in_range = λ seat i on.
        let s = listed_seat w seat i on in
        let list = row-seat s.of in
        let m = entry_mutual w.reviewers w.proposers s.reviewer i (omega (arith, length-list s.of)) in
        let q : entry (seat_market w).reviewers seat i ≡ get_or (mutual_row w.reviewers w.proposers s.reviewer) i 0 = ap (λ l. get_or l i 0) list in
        let there = row_in_range w.proposers _ _ m.listed in
        omega (arith, length-proposers w, q);
    distinct = λ seat i j less on.
        let s = listed_seat w seat j on in
        rw (row-seat s.of) ((mutual_distinct h.reviewers w.proposers s.reviewer).distinct i j less (omega (arith, length-list s.of)));
    returned = λ seat i on.
        let s = listed_seat w seat i on in
        let q : entry (seat_market w).reviewers seat i ≡ get_or (mutual_row w.reviewers w.proposers s.reviewer) i 0 = ap (λ l. get_or l i 0) (row-seat s.of) in
        let m = mutual_turned (entry_mutual w.reviewers w.proposers s.reviewer i (omega (arith, length-list s.of))) in
        let it = placed {w = w} {r = s.reviewer} {k = s.number} m s.of.below in
        let place = place_is h it in
        let there = ap (place_of (seat_market w).proposers (get_or (mutual_row w.reviewers w.proposers s.reviewer) i 0)) s.of.is in
        rw q (omega (arith, there, place, it.on));
  }

  -- so it is a market
  pub is_market : IsMarket (seat_market w)
  is_market = record { proposers = proposers_mutual; reviewers = reviewers_mutual }
