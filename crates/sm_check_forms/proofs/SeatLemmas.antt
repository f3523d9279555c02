-- Seats by the first seats of reviewers.
use Rattle.std.proofs.Common.{◌≡◌, ℕ, ◌+◌, ◌-◌, ◌<◌, ◌≤◌, nat_le, true, leb-true, arith, ap, ◌∙◌, List, length, slice_index_or}
use Rattle.std.proofs.lemmas.List.FromFn.{get_or-map-range_with_len, length-map-range_with_len}
use Rattle.sm_lists.proofs.BoolLemmas.{first_true, second_true}
use Rattle.sm_agents.specs.Written.{Written}
use Rattle.sm_report.specs.declared.lines.Seat.{Seat}
use Rattle.sm_check_forms.specs.Seats.{is_seat}
use Rattle.sm_seats.specs.SeatMarket.{seat_count, seats_before, seat_market}
use Rattle.sm_seats.specs.Counted.{first_seats_of}
use Rattle.sm_seats.proofs.SeatLemmas.{seats_before_more, seats_end, length-reviewers}

module _ (w : Written) (firsts : List ℕ) (e : firsts ≡ first_seats_of w) (r : ℕ) (h : r < length w.reviewers) where
  -- there is one for each reviewer and one behind the last
  pub firsts_long : length firsts ≡ length w.reviewers + 1
  firsts_long = ap length e ∙ length-map-range_with_len (seats_before w) 0 (length w.reviewers + 1)

  first_at : (k : ℕ) → k ≤ length w.reviewers → slice_index_or firsts k 0 ≡ seats_before w k
  first_at k le =
      ap (λ (xs : List ℕ). slice_index_or xs k 0) e
      ∙ get_or-map-range_with_len (seats_before w) 0 (length w.reviewers + 1) k k 0 (omega (arith, le)) (omega arith)

  -- the seats of a reviewer stand between its first one and that of the next
  pub seats_between : slice_index_or firsts (r + 1) 0 ≡ slice_index_or firsts r 0 + seat_count w r
  seats_between = omega (arith, first_at r (omega (arith, h)), first_at (r + 1) (omega (arith, h)), seats_before_more w r)

  -- a seat's number is below the first seat of the next reviewer, and one of the market
  pub number_is : slice_index_or firsts r 0 ≡ seats_before w r
  number_is = first_at r (omega (arith, h))

  -- the n-th seat of a reviewer comes before the first one of the next
  pub number_below : (n : ℕ) → 1 ≤ n → n ≤ seat_count w r → slice_index_or firsts r 0 + (n - 1) < slice_index_or firsts (r + 1) 0
  number_below n low high = omega (arith, seats_between, low, high)

  -- and it is a seat of the market
  pub number_there : (n : ℕ) → 1 ≤ n → n ≤ seat_count w r → slice_index_or firsts r 0 + (n - 1) < length (seat_market w).reviewers
  number_there n low high = omega (arith, number_is, low, high, length-reviewers w, seats_end w r (length w.reviewers) h)

-- the bounds of a seat's number
pub seat_bounds : (w : Written) (seat : Seat) → is_seat w seat ≡ true → (1 ≤ seat.number) × (seat.number ≤ seat_count w seat.reviewer)
seat_bounds w seat e = (leb-true _ _ (first_true (nat_le 1 seat.number) (nat_le seat.number (seat_count w seat.reviewer)) e), leb-true _ _ (second_true (nat_le 1 seat.number) (nat_le seat.number (seat_count w seat.reviewer)) e))
