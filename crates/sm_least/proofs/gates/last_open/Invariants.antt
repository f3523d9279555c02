use Rattle.std.proofs.Common.{◌≡◌, ℕ, ◌<◌, ◌≤◌, true, false, length, slice_index_or}
use Rattle.sm_least.proofs.gates.last_open.Given as goal

abbrev pub invariant-loop-until : goal.invariant-loop-until
invariant-loop-until l = record {
  few : l.until ≤ length l.shut;
  past : (a : ℕ) → l.until ≤ a → a < length l.shut → slice_index_or l.shut a false ≡ true;
}

abbrev pub decreases-loop-until : goal.decreases-loop-until
decreases-loop-until l = l.until
