use Rattle.sm_law_agree.proofs.CouplesAgree.{couples_agree}
use Rattle.sm_law_agree.proofs.laws.couples_agree.Goals as goal

pub returns : goal.returns
returns c = couples_agree
