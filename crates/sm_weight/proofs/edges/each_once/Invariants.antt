use Rattle.sm_weight.proofs.EdgeLemmas.{IsOnce}
use Rattle.sm_weight.proofs.edges.each_once.Given as goal

abbrev pub invariant-loop-i : goal.invariant-loop-i
invariant-loop-i l = IsOnce l.edges l.once.items l.i
