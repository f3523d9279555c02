use Rattle.sm_theory.proofs.Flow.Witness.{worked_net}
use Rattle.sm_theory.proofs.witnesses.worked_net.Goals as goal

pub returns : goal.returns
returns c = worked_net
