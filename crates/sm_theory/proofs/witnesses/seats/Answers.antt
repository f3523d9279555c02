use Rattle.sm_theory.proofs.Tests.Seats.{seats_are}
use Rattle.sm_theory.proofs.witnesses.seats.Goals as goal

pub returns : goal.returns
returns c = seats_are
