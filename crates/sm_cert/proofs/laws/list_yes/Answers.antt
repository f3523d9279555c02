use Rattle.sm_cert.proofs.ListYes.{list_yes}
use Rattle.sm_cert.proofs.laws.list_yes.Goals as goal

pub returns : goal.returns
returns c = list_yes
