use Rattle.sm_theory.proofs.Medians.Places.{placed_in_order}
use Rattle.sm_theory.proofs.laws.placed_in_order.Goals as goal

pub returns : goal.returns
returns c = placed_in_order
