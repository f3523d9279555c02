use Rattle.std.proofs.Common.{◌≡◌, map}
use Rattle.std.specs.List.{range_with_len}
use Rattle.sm_lists.specs.Rows.{rows_of}
use Rattle.sm_seats.specs.Seating.{levels_at}
use Rattle.sm_seats.proofs.seats.Seats.levels.Given as goal

abbrev pub invariant-loop-p : goal.invariant-loop-p
invariant-loop-p l = rows_of l.levels.items ≡ map (levels_at l.self) (range_with_len 0 l.p)
