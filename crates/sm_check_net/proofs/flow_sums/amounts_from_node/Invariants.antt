use Rattle.std.specs.Prelude.{◌==◌, if◌then◌else◌}
use Rattle.sm_check_net.specs.FlowSums.{carried_from}
use Rattle.sm_check_net.proofs.FlowLemmas.{AreSummed}
use Rattle.sm_check_net.proofs.flow_sums.amounts_from_node.Given as goal

abbrev pub invariant-loop-line : goal.invariant-loop-line
invariant-loop-line l = AreSummed l.nodes (λ v line. if line.to == v then carried_from l.from line else 0) l.lines l.line-index l.sums.items
