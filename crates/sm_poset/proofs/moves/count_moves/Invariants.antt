use Rattle.std.proofs.Common.{◌≡◌, length}
use Rattle.sm_poset.proofs.moves.count_moves.Given as goal

abbrev pub invariant-loop-p : goal.invariant-loop-p
invariant-loop-p l = length l.counts ≡ length l.fn.counts
