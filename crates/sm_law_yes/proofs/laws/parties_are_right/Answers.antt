use Rattle.sm_law_yes.proofs.PartiesRight.{parties_are_right}
use Rattle.sm_law_yes.proofs.laws.parties_are_right.Goals as goal

pub returns : goal.returns
returns c = parties_are_right c.none_yes.ensures
