use Rattle.sm_seats.specs.Taking.{AreSeatedBefore}
use Rattle.sm_seats.proofs.taking.seat_all.Given as goal

abbrev pub ghost-seat_in_order : goal.ghost-seat_in_order
ghost-seat_in_order g a = g.written

abbrev pub invariant-loop-seat : goal.invariant-loop-seat
invariant-loop-seat g l = AreSeatedBefore g.written l.a.places.items l.seat l.places
