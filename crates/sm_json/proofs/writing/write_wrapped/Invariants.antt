use Rattle.sm_json.proofs.ArrayLemmas.{IsWrappedSoFar}
use Rattle.sm_json.proofs.writing.write_wrapped.Given as goal

-- some lines are written, and the others are left
abbrev pub invariant-lines : goal.invariant-lines
invariant-lines g l = IsWrappedSoFar (g.L.Lines.gives l.initial.lines) (g.L.Lines.gives l.lines) l.first
    (g.K.Sink.held l.initial.sink) (g.K.Sink.held l.sink) (g.K.Sink.faults l.initial.sink) (g.K.Sink.faults l.sink)

abbrev pub decreases-lines : goal.decreases-lines
decreases-lines g l = g.L.Lines.most l.lines
