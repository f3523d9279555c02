use Rattle.std.proofs.Common.{take}
use Rattle.sm_market.specs.Vectors.{rows_of}
use Rattle.sm_rotations.specs.Graph.{AreAddedTo}
use Rattle.sm_rotations.proofs.graph.add_once.Given as goal

abbrev pub invariant-loop-j : goal.invariant-loop-j
invariant-loop-j l = AreAddedTo l.number (take l.j-index l.those) (rows_of l.initial.lists) (rows_of l.lists)
