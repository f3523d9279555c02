use Rattle.sm_theory.specs.Marks.{marks_in, IsSpanMarked}
use Rattle.sm_theory.proofs.marks.mark_span.Given as goal

abbrev pub invariant-loop-place : goal.invariant-loop-place
invariant-loop-place l = IsSpanMarked l.market l.r l.better l.place l.j l.fn.marks (marks_in l.rows)
