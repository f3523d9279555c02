use Rattle.sm_theory.proofs.Flow.Cuts.{reach_is_least_cut}
use Rattle.sm_theory.proofs.laws.reach_is_least_cut.Goals as goal

pub returns : goal.returns
returns c = reach_is_least_cut
