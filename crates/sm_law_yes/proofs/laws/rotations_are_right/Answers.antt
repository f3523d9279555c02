use Rattle.sm_law_yes.proofs.RotationsRight.{rotations_are_right}
use Rattle.sm_law_yes.proofs.laws.rotations_are_right.Goals as goal

pub returns : goal.returns
returns c = rotations_are_right c.rotations_yes.ensures
