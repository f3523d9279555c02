use Rattle.sm_theory.proofs.Flow.Cuts.{no_flow_above_cut}
use Rattle.sm_theory.proofs.laws.no_flow_above_cut.Goals as goal

pub returns : goal.returns
returns c = no_flow_above_cut
