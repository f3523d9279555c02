use Rattle.std.proofs.Common.{◌≡◌, map}
use Rattle.std.specs.List.{range_with_len}
use Rattle.std.specs.Option.{option_map}
use Rattle.sm_market.specs.Matching.{held}
use Rattle.sm_seats.specs.Seating.{written_place}
use Rattle.sm_seats.proofs.seats.Seats.to_hospitals.Given as goal

abbrev pub invariant-loop-p : goal.invariant-loop-p
invariant-loop-p l = l.places.items ≡ map (λ p. option_map (written_place l.self p) (held l.m.places.proposers p)) (range_with_len 0 l.p)
