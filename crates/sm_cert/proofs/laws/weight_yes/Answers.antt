use Rattle.sm_cert.proofs.WeightYes.{weight_yes}
use Rattle.sm_cert.proofs.laws.weight_yes.Goals as goal

pub returns : goal.returns
returns c = weight_yes
