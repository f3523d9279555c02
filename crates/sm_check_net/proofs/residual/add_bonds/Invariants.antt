use Rattle.std.proofs.Common.{◌≡◌, ◌++◌, take}
use Rattle.sm_check_net.specs.CheckedNets.{net_of_parts}
use Rattle.sm_check_net.specs.Residual.{bond_steps}
use Rattle.sm_check_net.proofs.residual.add_bonds.Given as goal

abbrev pub invariant-loop-from : goal.invariant-loop-from
invariant-loop-from l = l.steps.items ≡ l.initial.steps.items ++ bond_steps (net_of_parts l.net) (take l.from-index l.bonds)
