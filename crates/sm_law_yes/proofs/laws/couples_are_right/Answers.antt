use Rattle.sm_law_yes.proofs.CouplesRight.{couples_are_right}
use Rattle.sm_law_yes.proofs.laws.couples_are_right.Goals as goal

pub returns : goal.returns
returns c = couples_are_right c.couples_yes.ensures
