use Rattle.sm_weight.specs.Lines.{AreReached}
use Rattle.sm_weight.proofs.flows.reached.Given as goal

abbrev pub invariant-loop-k : goal.invariant-loop-k
invariant-loop-k l = AreReached l.flow.reached l.k l.members.items
