use Rattle.sm_theory.specs.Marks.{AreMoved}
use Rattle.sm_theory.proofs.marks.note_movers.Given as goal

abbrev pub invariant-loop-i : goal.invariant-loop-i
invariant-loop-i l = AreMoved l.pairs l.i l.j l.fn.last l.last
