use Rattle.sm_market.specs.Vectors.{rows_of}
use Rattle.sm_rotations.specs.Graph.{AreCounts}
use Rattle.sm_rotations.proofs.graph.counts.Given as goal

abbrev pub invariant-loop-list : goal.invariant-loop-list
invariant-loop-list l = AreCounts (rows_of l.lists) l.list-index l.counts.items
