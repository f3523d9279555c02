use Rattle.std.proofs.Common.{ℕ, ◌<◌, length, slice_index}
use Rattle.sm_lists.specs.Rows.{row}
use Rattle.sm_theory.specs.ClosedSets.{IsMember}
use Rattle.sm_check_net.proofs.closed.is_closed.Given as goal

abbrev pub invariant-loop-j : goal.invariant-loop-j
invariant-loop-j l = (i : ℕ) → i < l.j → IsMember l.set i → (a : ℕ) → a < length (row l.net.needs i) → IsMember l.set (slice_index (row l.net.needs i) a)
