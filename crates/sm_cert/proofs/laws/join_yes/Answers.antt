use Rattle.sm_cert.proofs.ChosenYes.{join_yes}
use Rattle.sm_cert.proofs.laws.join_yes.Goals as goal

pub returns : goal.returns
returns c = join_yes
