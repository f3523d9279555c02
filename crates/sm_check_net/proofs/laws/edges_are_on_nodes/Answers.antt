use Rattle.sm_check_net.proofs.EdgeLemmas.{edges_are_on_nodes}
use Rattle.sm_check_net.proofs.laws.edges_are_on_nodes.Goals as goal

pub returns : goal.returns
returns c = edges_are_on_nodes
