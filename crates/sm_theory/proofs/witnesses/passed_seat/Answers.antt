use Rattle.sm_theory.proofs.Tests.Markets.{passed_seat_is}
use Rattle.sm_theory.proofs.witnesses.passed_seat.Goals as goal

pub returns : goal.returns
returns c = passed_seat_is
