use Rattle.std.proofs.Common.{◌≡◌, ◌++◌}
use Rattle.sm_check_net.specs.CheckedNets.{net_of_parts}
use Rattle.sm_check_net.specs.Residual.{joined, supply_steps}
use Rattle.sm_check_net.proofs.residual.add_supplies.Given as goal

abbrev pub invariant-loop-k : goal.invariant-loop-k
invariant-loop-k l = l.steps.items ≡ l.initial.steps.items ++ joined (supply_steps (net_of_parts l.net) l.lines) l.k
