use Rattle.sm_theory.proofs.Flow.Witness.{barred_net_is}
use Rattle.sm_theory.proofs.witnesses.barred_net.Goals as goal

pub returns : goal.returns
returns c = barred_net_is
