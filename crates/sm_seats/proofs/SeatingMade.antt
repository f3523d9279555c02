-- A seating, from its parts.
use Rattle.std.proofs.Common.{◌≡◌, ℕ, List, length, refl}
use Rattle.sm_agents.specs.Written.{Written, lists_of}
use Rattle.sm_market.specs.Lists.{Lists, both_sides}
use Rattle.sm_seats.specs.SeatMarket.{seats_of, seat_market}
use Rattle.sm_seats.specs.Seating.{seating_of}
use Rattle.sm_seats.specs.ProposerRows.{seat_rows_of}
use Rattle.sm_seats.specs.ReviewerRows.{seat_lists_before}
use Rattle.sm_seats.proofs.CrossRows.{lists_made}

-- the market with these lists
pub market_made : (w : Written) (proposers reviewers : List (List ℕ)) → proposers ≡ seat_rows_of w (length w.proposers) → reviewers ≡ seat_lists_before w (length w.reviewers)
    → both_sides proposers reviewers ≡ seat_market w
market_made w proposers reviewers a b = rw (a, b, lists_made w) refl

-- and the seating with this market
pub seating_made : (w written : Written) (lists : List (List ℕ)) (market : Lists) (seats : List (ℕ × ℕ)) → written ≡ w → lists ≡ lists_of w.proposers → market ≡ seat_market w → seats ≡ seats_of w
    → record { written = written; lists = lists; market = market; seats = seats } ≡ seating_of w
seating_made w written lists market seats a b c d = rw (a, b, c, d) refl
