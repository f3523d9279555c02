-- What is counted of the seats of an instance.
use Rattle.std.specs.Prelude.{◌≡◌, ℕ, ◌+◌, List, map, length}
use Rattle.std.specs.List.{range_with_len}
use Rattle.sm_agents.specs.Written.{Written}
use Rattle.sm_seats.specs.Mutual.{mutual_row}
use Rattle.sm_seats.specs.SeatMarket.{seats_before}
use Rattle.sm_seats.specs.SeatEntries.{seat_entries_before}
use Rattle.sm_seats.specs.declared.counts.SeatCounts.{SeatCounts}
use Rattle.sm_seats.specs.declared.entry_counts.EntryCounts.{EntryCounts}

-- the first seat of each reviewer, and behind the last how many seats there are
abbrev pub first_seats_of : Written → List ℕ
first_seats_of w = map (seats_before w) (range_with_len 0 (length w.reviewers + 1))

-- the numbers of all seats
abbrev pub seat_numbers_of : Written → List ℕ
seat_numbers_of w = range_with_len 0 (seats_before w (length w.reviewers))

-- how many proposers are acceptable to each reviewer
abbrev pub acceptable_at : Written → ℕ → ℕ
acceptable_at w r = length (mutual_row w.reviewers w.proposers r)

-- the number of acceptable proposers of each reviewer
abbrev pub acceptable_of : Written → List ℕ
acceptable_of w = map (acceptable_at w) (range_with_len 0 (length w.reviewers))

-- these are the first seats
pub record AreSeatCounts (w : Written) (counts : SeatCounts) : Type 0 where
  pub firsts : counts.firsts.items ≡ first_seats_of w

-- these are the first seats, the numbers of all seats, how many proposers are acceptable to each reviewer, and how many
-- entries the lists of all seats have
pub record AreEntryCounts (w : Written) (counts : EntryCounts) : Type 0 where
  pub firsts : counts.firsts.now ≡ first_seats_of w
  pub numbers : counts.numbers.items ≡ seat_numbers_of w
  pub acceptable : counts.acceptable.items ≡ acceptable_of w
  pub entries : counts.entries ≡ seat_entries_before w (length w.reviewers)
