use Rattle.sm_law_order.proofs.WitnessLemmas.{over_a_seat_is}
use Rattle.sm_law_order.proofs.witnesses.over_a_seat.Goals as goal

pub returns : goal.returns
returns c = over_a_seat_is
