use Rattle.sm_cert.proofs.ReducedYes.{reduced_yes}
use Rattle.sm_cert.proofs.laws.reduced_yes.Goals as goal

pub returns : goal.returns
returns c = reduced_yes
