use Rattle.sm_law_yes.proofs.RotationsRight.{rotations_correspond}
use Rattle.sm_law_yes.proofs.laws.rotations_correspond.Goals as goal

pub returns : goal.returns
returns c = rotations_correspond c.rotations_yes.ensures
