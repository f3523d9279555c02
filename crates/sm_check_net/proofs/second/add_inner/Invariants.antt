use Rattle.std.proofs.Common.{◌≡◌, ◌++◌, take}
use Rattle.std.specs.List.{flat_map}
use Rattle.sm_check_net.specs.CheckedNets.{net_of_parts}
use Rattle.sm_check_net.specs.Second.{inner_step}
use Rattle.sm_check_net.proofs.second.add_inner.Given as goal

abbrev pub invariant-loop-from : goal.invariant-loop-from
invariant-loop-from l = l.inner.items ≡ l.initial.inner.items ++ flat_map (inner_step (net_of_parts l.net)) (take l.from-index l.steps)
