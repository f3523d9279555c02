use Rattle.std.proofs.Common.{◌≡◌, [], replicate}
use Rattle.sm_poset.specs.Moves.{moves_in}
use Rattle.sm_poset.proofs.moves.no_moves.Given as goal

abbrev pub invariant-loop-p : goal.invariant-loop-p
invariant-loop-p l = moves_in l.moves.items ≡ replicate l.p []
