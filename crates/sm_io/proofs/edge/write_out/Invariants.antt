use Rattle.std.proofs.Common.{length}
use Rattle.sm_io.proofs.Out.{IsOut}
use Rattle.sm_io.proofs.edge.write_out.Given as goal

abbrev pub invariant-loop-rest : goal.invariant-loop-rest
invariant-loop-rest g l = IsOut (g.W.Write.contents l.initial.writer) (g.W.Write.contents l.writer) l.piece l.rest

abbrev pub decreases-loop-rest : goal.decreases-loop-rest
decreases-loop-rest g l = length l.rest
