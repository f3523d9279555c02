use Rattle.sm_seats.proofs.seats.Seats.to_seats.Given as goal

abbrev pub ghost-places_taken : goal.ghost-places_taken
ghost-places_taken a = a.self.now.written
