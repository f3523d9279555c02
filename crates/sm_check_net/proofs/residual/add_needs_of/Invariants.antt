use Rattle.std.proofs.Common.{◌≡◌, ◌++◌, take}
use Rattle.sm_check_net.specs.CheckedNets.{net_of_parts}
use Rattle.sm_check_net.specs.Residual.{need_steps_of}
use Rattle.sm_check_net.proofs.residual.add_needs_of.Given as goal

abbrev pub invariant-loop-i : goal.invariant-loop-i
invariant-loop-i l = l.steps.items ≡ l.initial.steps.items ++ need_steps_of (net_of_parts l.net) l.k (take l.i-index l.needs)
