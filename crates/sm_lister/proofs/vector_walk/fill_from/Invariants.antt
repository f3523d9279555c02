use Rattle.std.proofs.Common.{◌≡◌, ℕ, ◌<◌, ◌≤◌, length, slice_index}
use Rattle.sm_lister.proofs.vector_walk.fill_from.Given as goal

abbrev pub invariant-loop-j : goal.invariant-loop-j
invariant-loop-j l = record {
  mark_each : length l.marks ≡ length l.initial.marks;
  before : (k : ℕ) → k < l.from → slice_index l.marks k ≡ slice_index l.initial.marks k;
  done : (k : ℕ) → l.from ≤ k → k < l.j → slice_index l.marks k ≡ l.count;
}
