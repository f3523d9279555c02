use Rattle.sm_cert.proofs.ChosenYes.{meet_yes}
use Rattle.sm_cert.proofs.laws.meet_yes.Goals as goal

pub returns : goal.returns
returns c = meet_yes
