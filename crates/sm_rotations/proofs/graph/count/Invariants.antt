use Rattle.std.proofs.Common.{take}
use Rattle.sm_rotations.specs.Graph.{AreCounted}
use Rattle.sm_rotations.proofs.graph.count.Given as goal

abbrev pub invariant-loop-j : goal.invariant-loop-j
invariant-loop-j l = AreCounted (take l.j-index l.list) l.initial.counts l.counts
