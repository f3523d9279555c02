use Rattle.sm_check_net.proofs.NetOfLemmas.{net_is}
use Rattle.sm_check_net.proofs.laws.net_is_of.Goals as goal

pub returns : goal.returns
returns c = net_is
