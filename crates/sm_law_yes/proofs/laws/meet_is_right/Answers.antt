use Rattle.sm_law_yes.proofs.ChosenRight.{meet_is_right}
use Rattle.sm_law_yes.proofs.laws.meet_is_right.Goals as goal

pub returns : goal.returns
returns c = meet_is_right c.meet_yes.ensures
