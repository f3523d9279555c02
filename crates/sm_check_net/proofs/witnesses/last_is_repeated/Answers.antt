use Rattle.sm_check_net.proofs.NetWitness.{last_is_repeated}
use Rattle.sm_check_net.proofs.witnesses.last_is_repeated.Goals as goal

pub returns : goal.returns
returns c = last_is_repeated
