-- How large a market of seats may be.
use Rattle.std.specs.Prelude.{ℕ, ◌+◌, ◌*◌, ◌<◌, ◌≤◌, nat_lt, Option, position, length}
use Rattle.std.specs.List.{range_with_len, sum_by}
use Rattle.sm_text.specs.Limits.{most_seat_entries}
use Rattle.sm_agents.specs.Written.{Written}
use Rattle.sm_seats.specs.Mutual.{mutual_row}
use Rattle.sm_seats.specs.SeatMarket.{seat_count}
use Rattle.sm_seats.specs.declared.faults.SeatsFault.{SeatsFault}
use Rattle.sm_seats.specs.declared.faults.SeatsFault.TheVariants.{TooManySeats, OutOfMemory}

-- the entries on the lists of a reviewer's seats
abbrev pub seat_entries : Written → ℕ → ℕ
seat_entries w r = seat_count w r * length (mutual_row w.reviewers w.proposers r)

-- those of the first n reviewers
abbrev pub seat_entries_before : Written → ℕ → ℕ
seat_entries_before w n = sum_by (seat_entries w) (range_with_len 0 n)

-- the seats of all reviewers have few enough entries
abbrev pub AreFewSeats : Written → Type 0
AreFewSeats w = seat_entries_before w (length w.reviewers) ≤ most_seat_entries

-- r is the first reviewer, in the order of the file, with whom they are too many
pub record IsFirstTooMany (w : Written) (r : ℕ) : Type 0 where
  pub there : r < length w.reviewers
  pub earlier : seat_entries_before w r ≤ most_seat_entries
  pub past : most_seat_entries < seat_entries_before w (r + 1)

-- the same reviewer, if there is one
abbrev pub first_too_many : Written → Option ℕ
first_too_many w = position (λ r. nat_lt most_seat_entries (seat_entries_before w (r + 1))) (range_with_len 0 (length w.reviewers))

-- what a fault says; want of memory says nothing
abbrev pub IsSeatsFault : Written → SeatsFault → Type 0
IsSeatsFault w (TooManySeats r) = IsFirstTooMany w r
IsSeatsFault w OutOfMemory = Unit {0}
