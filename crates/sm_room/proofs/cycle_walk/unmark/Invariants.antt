use Rattle.sm_room.specs.Rotating.{AreUnmarked}
use Rattle.sm_room.proofs.cycle_walk.unmark.Given as goal

abbrev pub invariant-loop-i : goal.invariant-loop-i
invariant-loop-i l = AreUnmarked l.path l.keep l.i l.fn.marks l.marks
