use Rattle.sm_check_net.proofs.MoveLemmas.{moves_have_levels}
use Rattle.sm_check_net.proofs.laws.moves_have_levels.Goals as goal

pub returns : goal.returns
returns c = moves_have_levels
