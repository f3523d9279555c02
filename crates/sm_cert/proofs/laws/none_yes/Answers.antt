use Rattle.sm_cert.proofs.NoneYes.{none_yes}
use Rattle.sm_cert.proofs.laws.none_yes.Goals as goal

pub returns : goal.returns
returns c = none_yes
