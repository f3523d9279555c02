use Rattle.sm_cert.proofs.CouplesYes.{couples_yes}
use Rattle.sm_cert.proofs.laws.couples_yes.Goals as goal

pub returns : goal.returns
returns c = couples_yes
