use Rattle.sm_law_order.proofs.WitnessLemmas.{in_a_row_is}
use Rattle.sm_law_order.proofs.witnesses.in_a_row.Goals as goal

pub returns : goal.returns
returns c = in_a_row_is
