use Rattle.std.specs.Prelude.{◌==◌, if◌then◌else◌}
use Rattle.sm_check_net.proofs.FlowLemmas.{AreSummed}
use Rattle.sm_check_net.proofs.flow_sums.amounts_from.Given as goal

abbrev pub invariant-loop-line : goal.invariant-loop-line
invariant-loop-line l = AreSummed l.nodes (λ v line. if line.from == v then line.amount else 0) l.lines l.line-index l.sums.items
