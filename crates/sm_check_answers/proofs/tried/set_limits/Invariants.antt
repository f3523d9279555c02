use Rattle.sm_check_answers.specs.Tried.{AreSet}
use Rattle.sm_check_answers.proofs.tried.set_limits.Given as goal

abbrev pub invariant-loop-r : goal.invariant-loop-r
invariant-loop-r l = AreSet l.instance l.a.places.items l.r l.fn.limits l.limits l.fn.touched l.touched
