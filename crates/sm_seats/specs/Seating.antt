-- A market of seats beside the instance of which it was made, and what its places are there.
use Rattle.std.specs.Prelude.{ℕ, ◌+◌, List, [], ◌∷◌, ◌++◌, map, length, Option, slice_index_or}
use Rattle.std.specs.List.{range_with_len}
use Rattle.std.specs.Option.{option_map}
use Rattle.sm_agents.specs.Written.{Written, lists_of}
use Rattle.sm_market.specs.Lists.{Lists, row, entry, place_of, agents}
use Rattle.sm_market.specs.Matching.{held}
use Rattle.sm_seats.specs.SeatMarket.{seat_market, seats_of}

-- the instance with its lists and capacities, as it is written; the lists that the proposers wrote, the market of seats, and
-- for each seat the reviewer, and the seat's number there, from 1
pub record Seating : Type 0 where
  pub written : Written
  pub lists : List (List ℕ)
  pub market : Lists
  pub seats : List (ℕ × ℕ)

-- the one of an instance
abbrev pub seating_of : Written → Seating
seating_of w = record { written = w; lists = lists_of w.proposers; market = seat_market w; seats = seats_of w }

-- a seat's reviewer, and its number there
abbrev pub reviewer_of : Seating → ℕ → ℕ
reviewer_of s seat = (slice_index_or s.seats seat (0, 0)).0

-- the number of a seat at its reviewer
abbrev pub number_of : Seating → ℕ → ℕ
number_of s seat = (slice_index_or s.seats seat (0, 0)).1

-- the place on p's written list of the reviewer whose seat is at place i of p's list of seats
abbrev pub written_place : Seating → ℕ → ℕ → ℕ
written_place s p i = place_of s.lists p (reviewer_of s (entry s.market.proposers p i))

-- the matching of the instance in which each proposer has the reviewer of its seat: what is left once seat numbers are
-- forgotten
abbrev pub written_of : Seating → List (Option ℕ) → List (Option ℕ)
written_of s places = map (λ p. option_map (written_place s p) (held places p)) (agents s.market.proposers)

-- something of each place of p's list of seats, by the place on its written list
abbrev pub at_places : {X : Type 0} → Seating → (ℕ → ℕ → X) → ℕ → List X
at_places s f p = map (λ i. f p (written_place s p i)) (range_with_len 0 (length (row s.market.proposers p)))

-- the level of a seat is the rank of its reviewer, and there is a last one for being unmatched
abbrev pub rank_of : ℕ → ℕ → ℕ
rank_of p i = i + 1

-- the levels of the places of p's list of seats, and of being unmatched
abbrev pub levels_at : Seating → ℕ → List ℕ
levels_at s p = at_places s rank_of p ++ (length (row s.lists p) + 1) ∷ []

-- the levels of all proposers
abbrev pub levels_of : Seating → List (List ℕ)
levels_of s = map (levels_at s) (agents s.market.proposers)
