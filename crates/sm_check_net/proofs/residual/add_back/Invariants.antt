use Rattle.std.proofs.Common.{◌≡◌, ◌++◌, take}
use Rattle.sm_check_net.specs.Residual.{back_steps}
use Rattle.sm_check_net.proofs.residual.add_back.Given as goal

abbrev pub invariant-loop-line : goal.invariant-loop-line
invariant-loop-line l = l.steps.items ≡ l.initial.steps.items ++ back_steps (take l.line-index l.lines)
