use Rattle.sm_instance.specs.Loads.{IsFirstBelow}
use Rattle.sm_instance.proofs.instance.Instance.first_blocking.Given as goal

abbrev pub invariant-loop-r : goal.invariant-loop-r
invariant-loop-r l = IsFirstBelow l.self l.a.places.items l.r l.first
