use Rattle.sm_theory.proofs.Weighing.Weights.{weight_is_sum_of_gains}
use Rattle.sm_theory.proofs.laws.weight_is_sum_of_gains.Goals as goal

pub returns : goal.returns
returns c = weight_is_sum_of_gains
