-- What is kept of a seating.
use Rattle.std.specs.Prelude.{◌≡◌, ℕ, ◌<◌, ◌^◌, length, List, Option, MatchOption}
use Rattle.sm_market.specs.Lists.{row, entry}
use Rattle.sm_agents.specs.Sound.{IsInstance}
use Rattle.sm_seats.specs.Seating.{Seating, seating_of, written_place}
use Rattle.sm_seats.specs.Begins.{AreBegins, AreWrittenPlaces}

-- It is that of its instance. So there is a written list for each proposer and a name for each seat, the written lists are
-- short, and each list of seats has seats that are there, whose reviewers stand on the written list.
pub record IsKept (s : Seating) : Type 0 where
  pub instance : IsInstance s.written
  pub made : s ≡ seating_of s.written
  pub lists : length s.lists ≡ length s.market.proposers
  pub seats : length s.seats ≡ length s.market.reviewers
  pub short : (p : ℕ) → length (row s.lists p) < 2 ^ 24
  pub there : (p i : ℕ) → i < length (row s.market.proposers p) → entry s.market.proposers p i < length s.seats
  pub listed : (p i : ℕ) → i < length (row s.market.proposers p) → written_place s p i < length (row s.lists p)

-- beside it stands where the seats begin, or its lists of seats are the written ones
pub record IsKeptWith (begins : Option (List (List ℕ))) (s : Seating) : Type 0 where
  pub kept : IsKept s
  pub placed : MatchOption begins (AreWrittenPlaces s) (AreBegins s)
