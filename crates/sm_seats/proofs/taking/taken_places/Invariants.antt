use Rattle.sm_seats.proofs.taking.taken_places.Given as goal

abbrev pub ghost-seat_all : goal.ghost-seat_all
ghost-seat_all g a = g.written
