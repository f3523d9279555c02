use Rattle.std.proofs.Common.{◌≡◌, ℕ, ◌+◌, ◌<◌, slice_index}
use Rattle.sm_check_net.proofs.flow_sums.are_equal_inside.Given as goal

abbrev pub invariant-loop-k : goal.invariant-loop-k
invariant-loop-k l = (j : ℕ) → j < l.k → slice_index l.come (j + 1) ≡ slice_index l.left (j + 1)
