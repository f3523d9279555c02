-- The lists of the first n proposers: of seats and of cross places.
use Rattle.std.specs.Prelude.{ℕ, List, map}
use Rattle.std.specs.List.{range_with_len}
use Rattle.sm_agents.specs.Written.{Written}
use Rattle.sm_seats.specs.SeatMarket.{seat_row}
use Rattle.sm_seats.specs.Tables.{cross_row}

-- the lists of seats of the first n proposers
abbrev pub seat_rows_of : Written → ℕ → List (List ℕ)
seat_rows_of w n = map (seat_row w) (range_with_len 0 n)

-- the cross places along these lists
abbrev pub cross_rows_of : Written → ℕ → List (List ℕ)
cross_rows_of w n = map (cross_row w) (range_with_len 0 n)
