use Rattle.std.proofs.Common.{◌≡◌, length}
use Rattle.sm_poset.proofs.moves.move_counts.Given as goal

abbrev pub invariant-loop-rotation : goal.invariant-loop-rotation
invariant-loop-rotation l = length l.counts.items ≡ l.fn.proposers
