use Rattle.std.proofs.Common.{refl}
use Rattle.sm_check_net.proofs.witnesses.worked_steps.Goals as goal

pub returns : goal.returns
returns c = (refl, refl)
