-- What is counted on the way to the market of seats, and its lists one by one with their cross places.
use Rattle.std.specs.Prelude.{ℕ, ◌+◌, [], List, map, length, take, filter, replicate, nat_eq, cond}
use Rattle.std.specs.List.{flat_map, range_with_len}
use Rattle.sm_lists.specs.Rows.{place_on}
use Rattle.sm_agents.specs.Written.{Written, row, place_of}
use Rattle.sm_seats.specs.Mutual.{lists_back, mutual_row}
use Rattle.sm_seats.specs.SeatMarket.{seat_count, seats_at}
use Rattle.sm_seats.specs.Counted.{acceptable_at}

-- how many acceptable proposers stand before place j of r's written list
abbrev pub mutual_before : Written → ℕ → ℕ → ℕ
mutual_before w r j = length (filter (lists_back w.proposers r) (take j (row w.reviewers r)))

-- how many stand so before each place of r's written list
abbrev pub mutual_places_at : Written → ℕ → List ℕ
mutual_places_at w r = map (mutual_before w r) (range_with_len 0 (length (row w.reviewers r)))

-- a table of them where an entry is inert: where none is, these places are those of the written list
abbrev pub inert_places_at : Written → ℕ → List ℕ
inert_places_at w r = cond (nat_eq (acceptable_at w r) (length (row w.reviewers r))) [] (mutual_places_at w r)

-- these tables for all reviewers
abbrev pub inert_places_of : Written → List (List ℕ)
inert_places_of w = map (inert_places_at w) (range_with_len 0 (length w.reviewers))

-- the acceptable reviewers before place i of p's written list, and how many seats they have
abbrev pub reviewers_before : Written → ℕ → ℕ → List ℕ
reviewers_before w p i = filter (lists_back w.reviewers p) (take i (row w.proposers p))

-- how many seats the acceptable reviewers before place i of p's written list have
abbrev pub seats_listed : Written → ℕ → ℕ → ℕ
seats_listed w p i = length (flat_map (seats_at w) (reviewers_before w p i))

-- the places where the seats of the reviewers begin, and behind the last how many seats p lists
abbrev pub seat_places_at : Written → ℕ → List ℕ
seat_places_at w p = map (seats_listed w p) (range_with_len 0 (length (row w.proposers p) + 1))

-- these places for all proposers
abbrev pub seat_places_of : Written → List (List ℕ)
seat_places_of w = map (seat_places_at w) (range_with_len 0 (length w.proposers))

-- the place of p on the list of r's seats, for each of them
abbrev pub crosses_at : Written → ℕ → ℕ → List ℕ
crosses_at w p r = replicate (seat_count w r) (place_on (mutual_row w.reviewers w.proposers r) p)

-- the same along p's list of seats
abbrev pub cross_row : Written → ℕ → List ℕ
cross_row w p = flat_map (crosses_at w p) (mutual_row w.proposers w.reviewers p)

-- where the seats of r begin on the list of each proposer that is acceptable to r, and the same for its seat k, from 0
abbrev pub begin_of : Written → ℕ → ℕ → ℕ
begin_of w r p = seats_listed w p (place_of w.proposers p r)

-- where seat k of r, from 0, stands on the lists of the proposers that are acceptable to r
abbrev pub seat_crosses : Written → ℕ → ℕ → List ℕ
seat_crosses w r k = map (λ p. begin_of w r p + k) (mutual_row w.reviewers w.proposers r)

-- the lists of r's seats, and their cross places
abbrev pub lists_for : Written → ℕ → List (List ℕ)
lists_for w r = replicate (seat_count w r) (mutual_row w.reviewers w.proposers r)

-- the cross places of each of r's seats
abbrev pub crosses_for : Written → ℕ → List (List ℕ)
crosses_for w r = map (seat_crosses w r) (range_with_len 0 (seat_count w r))
