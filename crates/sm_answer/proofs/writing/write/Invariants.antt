use Rattle.sm_answer.proofs.WritingLemmas.{IsWrittenSoFar}
use Rattle.sm_answer.proofs.writing.write.Given as goal

-- some lines are written, and the others are left
abbrev pub invariant-lines : goal.invariant-lines
invariant-lines g l = IsWrittenSoFar (g.L.Lines.gives l.initial.lines) (g.L.Lines.gives l.lines)
    (g.K.Sink.held l.initial.sink) (g.K.Sink.held l.sink) (g.K.Sink.faults l.initial.sink) (g.K.Sink.faults l.sink)

abbrev pub decreases-lines : goal.decreases-lines
decreases-lines g l = g.L.Lines.most l.lines
