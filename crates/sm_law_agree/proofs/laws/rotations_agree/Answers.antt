use Rattle.sm_law_agree.proofs.RotationsAgree.{rotations_agree}
use Rattle.sm_law_agree.proofs.laws.rotations_agree.Goals as goal

pub returns : goal.returns
returns c = rotations_agree
