use Rattle.sm_theory.specs.Marks.{AreMarked}
use Rattle.sm_check_decide.proofs.needs.mark_moves.Given as goal

abbrev pub invariant-loop-i : goal.invariant-loop-i
invariant-loop-i l = AreMarked l.market l.pairs l.i l.j l.fn.marks l.marks
