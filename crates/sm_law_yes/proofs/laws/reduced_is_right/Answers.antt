use Rattle.sm_law_yes.proofs.ReducedRight.{reduced_is_right}
use Rattle.sm_law_yes.proofs.laws.reduced_is_right.Goals as goal

pub returns : goal.returns
returns c = reduced_is_right c.reduced_yes.ensures
