use Rattle.std.proofs.Common.{ℕ, ◌<◌, slice_index}
use Rattle.sm_theory.specs.ClosedSets.{IsMember}
use Rattle.sm_check_net.proofs.closed.are_members.Given as goal

abbrev pub invariant-loop-i : goal.invariant-loop-i
invariant-loop-i l = (a : ℕ) → a < l.i-index → IsMember l.set (slice_index l.numbers a)
