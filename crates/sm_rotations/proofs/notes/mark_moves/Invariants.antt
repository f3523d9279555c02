use Rattle.sm_rotations.specs.Marking.{AreMarked}
use Rattle.sm_rotations.proofs.notes.mark_moves.Given as goal

abbrev pub invariant-loop-i : goal.invariant-loop-i
invariant-loop-i l = AreMarked l.market l.pairs l.i l.j l.fn.marks l.marks
