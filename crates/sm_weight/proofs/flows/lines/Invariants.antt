use Rattle.std.proofs.Common.{◌≡◌}
use Rattle.sm_weight.specs.Lines.{lines_to}
use Rattle.sm_weight.proofs.flows.lines.Given as goal

abbrev pub invariant-loop-e : goal.invariant-loop-e
invariant-loop-e l = l.lines.items ≡ lines_to l.edges l.flow.amounts l.e
