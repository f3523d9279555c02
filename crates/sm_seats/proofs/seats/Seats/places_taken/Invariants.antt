use Rattle.sm_seats.proofs.seats.Seats.places_taken.Given as goal

abbrev pub ghost-taken_places : goal.ghost-taken_places
ghost-taken_places g a = g.written
