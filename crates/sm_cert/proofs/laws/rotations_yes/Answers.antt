use Rattle.sm_cert.proofs.RotationsYes.{rotations_yes}
use Rattle.sm_cert.proofs.laws.rotations_yes.Goals as goal

pub returns : goal.returns
returns c = rotations_yes
