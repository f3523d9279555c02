use Rattle.std.proofs.Common.{◌≡◌, map}
use Rattle.std.specs.List.{range_with_len}
use Rattle.sm_seats.specs.Tables.{seat_places_at}
use Rattle.sm_seats.proofs.places.seat_places.Given as goal

abbrev pub invariant-loop-p : goal.invariant-loop-p
invariant-loop-p l = l.places ≡ map (seat_places_at l.instance) (range_with_len 0 l.p)
