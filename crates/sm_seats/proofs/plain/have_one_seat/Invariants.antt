use Rattle.std.proofs.Common.{ℕ, ◌<◌}
use Rattle.sm_seats.specs.Plain.{HasOneSeat}
use Rattle.sm_seats.proofs.plain.have_one_seat.Given as goal

abbrev pub invariant-loop-r : goal.invariant-loop-r
invariant-loop-r l = (r : ℕ) → r < l.r → HasOneSeat l.instance r
