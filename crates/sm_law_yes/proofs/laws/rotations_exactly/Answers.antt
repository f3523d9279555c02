use Rattle.sm_law_yes.proofs.ExactlyRight.{rotations_exactly}
use Rattle.sm_law_yes.proofs.laws.rotations_exactly.Goals as goal

pub returns : goal.returns
returns c = rotations_exactly c.rotations_yes.ensures c.rotations_agree.ensures
