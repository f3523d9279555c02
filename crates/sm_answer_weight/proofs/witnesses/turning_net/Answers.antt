use Rattle.std.proofs.Common.{refl}
use Rattle.sm_answer_weight.proofs.witnesses.turning_net.Goals as goal

pub returns : goal.returns
returns c = (refl, refl, refl, refl, refl)
