use Rattle.sm_theory.proofs.Weighing.Lightest.{least_cut_is_lightest}
use Rattle.sm_theory.proofs.laws.least_cut_is_lightest.Goals as goal

pub returns : goal.returns
returns c = least_cut_is_lightest
