use Rattle.sm_seats.specs.Taking.{AreFirstSeatedAt}
use Rattle.sm_seats.proofs.taking.seat_in_order.Given as goal

abbrev pub ghost-is_at : goal.ghost-is_at
ghost-is_at g a = g.written

abbrev pub invariant-loop-place : goal.invariant-loop-place
invariant-loop-place g l = AreFirstSeatedAt g.written l.a.places.items l.r l.place l.before l.initial.places l.places

abbrev pub ghost-is_seat_of : goal.ghost-is_seat_of
ghost-is_seat_of g a = g.written
