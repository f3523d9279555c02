use Rattle.std.proofs.Common.{◌≡◌, [], replicate}
use Rattle.sm_market.specs.Vectors.{rows_of}
use Rattle.sm_rotations.proofs.graph.empty_lists.Given as goal

abbrev pub invariant-loop : goal.invariant-loop
invariant-loop l = rows_of l.lists.items ≡ replicate l.counter []
