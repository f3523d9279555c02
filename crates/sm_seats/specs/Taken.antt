-- The seats that a matching of an instance takes.
use Rattle.std.specs.Prelude.{ℕ, ◌+◌, List, map, filter, length, Option}
use Rattle.std.specs.List.{range_with_len}
use Rattle.std.specs.Option.{option_map}
use Rattle.sm_lists.specs.Rows.{place_on}
use Rattle.sm_agents.specs.Written.{Written, entry}
use Rattle.sm_instance.specs.Matching.{held, is_at}
use Rattle.sm_market.specs.Lists.{place_of}
use Rattle.sm_seats.specs.Mutual.{mutual_row}
use Rattle.sm_seats.specs.SeatMarket.{seats_before, seat_market}

-- the proposers at r, in its order of preference
abbrev pub seated : Written → List (Option ℕ) → ℕ → List ℕ
seated w places r = filter (λ q. is_at w places q r) (mutual_row w.reviewers w.proposers r)

-- the seat that p has at r, where r's proposers sit in its order of preference from the first seat on
abbrev pub seat_at : Written → List (Option ℕ) → (p r : ℕ) → ℕ
seat_at w places p r = seats_before w r + place_on (seated w places r) p

-- the place of this seat on p's list of seats, where p holds place i of its written list
abbrev pub place_taken : Written → List (Option ℕ) → (p i : ℕ) → ℕ
place_taken w places p i = place_of (seat_market w).proposers p (seat_at w places p (entry w.proposers p i))

-- the places that the proposers take
abbrev pub places_taken : Written → List (Option ℕ) → List (Option ℕ)
places_taken w places = map (λ p. option_map (place_taken w places p) (held places p)) (range_with_len 0 (length w.proposers))
