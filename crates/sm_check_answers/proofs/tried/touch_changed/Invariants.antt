use Rattle.sm_check_answers.specs.Tried.{AreTouched}
use Rattle.sm_check_answers.proofs.tried.touch_changed.Given as goal

abbrev pub invariant-loop-p : goal.invariant-loop-p
invariant-loop-p l = AreTouched l.instance l.old.places.items l.new.places.items l.p l.touched
