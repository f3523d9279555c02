use Rattle.sm_market.specs.Vectors.{rows_of}
use Rattle.sm_rotations.specs.Graph.{AreTurnedBack}
use Rattle.sm_rotations.proofs.graph.needs_by_followers.Given as goal

abbrev pub invariant-loop-i : goal.invariant-loop-i
invariant-loop-i l = AreTurnedBack (rows_of l.followers) l.i (rows_of l.needs.items)
