use Rattle.sm_law_yes.proofs.ChosenRight.{join_is_right}
use Rattle.sm_law_yes.proofs.laws.join_is_right.Goals as goal

pub returns : goal.returns
returns c = join_is_right c.join_yes.ensures
