use Rattle.std.proofs.Common.{◌≡◌, map}
use Rattle.std.specs.List.{range_with_len}
use Rattle.sm_seats.specs.Tables.{inert_places_at}
use Rattle.sm_seats.proofs.places.mutual_places.Given as goal

abbrev pub invariant-loop-r : goal.invariant-loop-r
invariant-loop-r l = l.places ≡ map (inert_places_at l.instance) (range_with_len 0 l.r)
