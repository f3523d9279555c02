-- The lists of the seats of the first n reviewers, and their cross places.
use Rattle.std.specs.Prelude.{ℕ, List}
use Rattle.std.specs.List.{flat_map, range_with_len}
use Rattle.sm_agents.specs.Written.{Written}
use Rattle.sm_seats.specs.Tables.{lists_for, crosses_for}

-- the lists of the seats of the first n reviewers
abbrev pub seat_lists_before : Written → ℕ → List (List ℕ)
seat_lists_before w n = flat_map (lists_for w) (range_with_len 0 n)

-- the cross places along these lists
abbrev pub seat_crosses_before : Written → ℕ → List (List ℕ)
seat_crosses_before w n = flat_map (crosses_for w) (range_with_len 0 n)
