use Rattle.std.proofs.Common.{ℕ, ◌<◌}
use Rattle.sm_instance.specs.Loads.{IsUnacceptable}
use Rattle.sm_instance.proofs.instance.Instance.first_unacceptable.Given as goal

abbrev pub invariant-loop-p : goal.invariant-loop-p
invariant-loop-p l = (q : ℕ) → q < l.p → ¬ IsUnacceptable l.self l.a.places.items q
