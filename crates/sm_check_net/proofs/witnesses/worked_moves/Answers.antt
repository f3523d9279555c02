use Rattle.std.proofs.Common.{refl}
use Rattle.sm_check_net.proofs.NetWitness.{moves_are}
use Rattle.sm_check_net.proofs.witnesses.worked_moves.Goals as goal

pub returns : goal.returns
returns c = (moves_are, refl, refl, refl, refl, refl)
