-- The seats that lines name, and their numbers in the market of seats.
use Rattle.std.specs.Prelude.{◌≡◌, ℕ, ◌+◌, ◌-◌, ◌&&◌, nat_le, Bool, List, map}
use Rattle.sm_agents.specs.Written.{Written}
use Rattle.sm_instance.specs.declared.inputs.Input.{Input}
use Rattle.sm_instance.specs.declared.inputs.Input.TheVariants.{Two, Room}
use Rattle.sm_report.specs.declared.lines.Seat.{Seat}
use Rattle.sm_seats.specs.SeatMarket.{seat_count, seats_before}
use Rattle.sm_seats.specs.Counted.{first_seats_of}

-- the reviewer has a seat of this number
abbrev pub is_seat : Written → Seat → Bool
is_seat w seat = nat_le 1 seat.number && nat_le seat.number (seat_count w seat.reviewer)

-- the reviewer of a pair's seat has it
abbrev pub pair_has_seat : Written → ℕ × Seat → Bool
pair_has_seat w pair = is_seat w pair.1

-- which seat of the market it is
abbrev pub seat_number : Written → Seat → ℕ
seat_number w seat = seats_before w seat.reviewer + (seat.number - 1)

-- the numbers of seats in the market
abbrev pub seat_numbers : Written → List Seat → List ℕ
seat_numbers w seats = map (seat_number w) seats

-- a proposer's pairs with seats, by the numbers of these
abbrev pub numbered : Written → ℕ × Seat → ℕ × ℕ
numbered w pair = (pair.0, seat_number w pair.1)

-- the same of several pairs
abbrev pub all_numbered : Written → List (ℕ × Seat) → List (ℕ × ℕ)
all_numbered w pairs = map (numbered w) pairs

-- the first seats of the reviewers of an instance with two sides
abbrev pub AreFirsts : Input → List ℕ → Type 0
AreFirsts (Two w) firsts = firsts ≡ first_seats_of w
AreFirsts (Room persons) firsts = Unit {0}
