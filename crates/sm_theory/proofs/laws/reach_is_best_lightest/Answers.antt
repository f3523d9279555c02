use Rattle.sm_theory.proofs.Weighing.Lightest.{reach_is_best_lightest}
use Rattle.sm_theory.proofs.laws.reach_is_best_lightest.Goals as goal

pub returns : goal.returns
returns c = reach_is_best_lightest
