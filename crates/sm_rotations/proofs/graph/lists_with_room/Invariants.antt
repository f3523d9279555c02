use Rattle.std.proofs.Common.{◌≡◌, [], replicate}
use Rattle.sm_market.specs.Vectors.{rows_of}
use Rattle.sm_rotations.proofs.graph.lists_with_room.Given as goal

abbrev pub invariant-loop-count : goal.invariant-loop-count
invariant-loop-count l = rows_of l.lists.items ≡ replicate l.count-index []
