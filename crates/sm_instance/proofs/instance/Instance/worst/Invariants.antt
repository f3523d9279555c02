use Rattle.sm_instance.specs.Namings.{asked}
use Rattle.sm_instance.proofs.LoadLemmas.{IsWorstSoFar}
use Rattle.sm_instance.proofs.instance.Instance.worst.Given as goal

abbrev pub invariant-loop-e : goal.invariant-loop-e
invariant-loop-e l = IsWorstSoFar l.self l.a.places.items l.r (asked l.namings) l.e l.worst
