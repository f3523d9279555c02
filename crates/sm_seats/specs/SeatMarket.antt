-- The seats of an instance, and the market of them. A seat stands for one place of a reviewer; seats are numbered from 0 in
-- the order of the reviewers, and those of one reviewer from 1 on.
use Rattle.std.specs.Prelude.{ℕ, List, map, length, min}
use Rattle.std.specs.List.{flat_map, range_with_len, sum_by}
use Rattle.sm_agents.specs.Written.{Written, capacity_of}
use Rattle.sm_market.specs.Lists.{Lists}
use Rattle.sm_seats.specs.Mutual.{mutual_row}

-- a reviewer has as many seats as places, but no more than acceptable proposers
abbrev pub seat_count : Written → ℕ → ℕ
seat_count w r = min (capacity_of w.reviewers r) (length (mutual_row w.reviewers w.proposers r))

-- how many seats the reviewers before r have: the first seat of r has this number
abbrev pub seats_before : Written → ℕ → ℕ
seats_before w r = sum_by (seat_count w) (range_with_len 0 r)

-- the seats of r
abbrev pub seats_at : Written → ℕ → List ℕ
seats_at w r = range_with_len (seats_before w r) (seat_count w r)

-- and each of them with its reviewer and its number there
abbrev pub named_seats : Written → ℕ → List (ℕ × ℕ)
named_seats w r = map (λ k. (r, k)) (range_with_len 1 (seat_count w r))

-- the names of all seats, each the reviewer and the seat's number there
abbrev pub seats_of : Written → List (ℕ × ℕ)
seats_of w = flat_map (named_seats w) (range_with_len 0 (length w.reviewers))

-- a proposer lists the seats of each reviewer that is acceptable to it in the reviewer's place, and in their order
abbrev pub seat_row : Written → ℕ → List ℕ
seat_row w p = flat_map (seats_at w) (mutual_row w.proposers w.reviewers p)

-- a seat has its reviewer's list of acceptable proposers
abbrev pub row_of_seat : Written → (ℕ × ℕ) → List ℕ
row_of_seat w seat = mutual_row w.reviewers w.proposers seat.0

-- the market of seats, in which each seat has one place
-- (Gusfield and Irving 1989, section 1.6.1; Manlove 2013, section 3.2)
abbrev pub seat_market : Written → Lists
seat_market w = record {
  proposers = map (seat_row w) (range_with_len 0 (length w.proposers));
  reviewers = map (row_of_seat w) (seats_of w);
}
