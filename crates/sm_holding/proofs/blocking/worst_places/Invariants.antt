use Rattle.sm_holding.specs.Gains.{AreWorstBelow}
use Rattle.sm_holding.proofs.blocking.worst_places.Given as goal

abbrev pub invariant-loop-p : goal.invariant-loop-p
invariant-loop-p l = AreWorstBelow l.instance l.a.places.items l.p l.worst.items
