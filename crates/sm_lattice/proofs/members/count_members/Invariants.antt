use Rattle.std.proofs.Common.{◌≡◌, ℕ, ◌+◌, ◌<◌, ◌≤◌, if◌then◌else◌, length, slice_index_or}
use Rattle.sm_theory.specs.ClosedSets.{is_member}
use Rattle.sm_lattice.proofs.members.count_members.Given as goal

-- the rotations so far are counted, and the others are as they were
abbrev pub invariant-loop-k : goal.invariant-loop-k
invariant-loop-k l = record {
  each : length l.holds ≡ length l.fn.holds;
  counted : (j : ℕ) → j < l.k → slice_index_or l.holds j 0 ≡ slice_index_or l.fn.holds j 0 + (if is_member l.members j then 1 else 0);
  same : (j : ℕ) → l.k ≤ j → slice_index_or l.holds j 0 ≡ slice_index_or l.fn.holds j 0;
}
