use Rattle.std.proofs.Common.{◌≡◌, ℕ, ◌<◌, ◌≤◌, true, false, [], length, slice_index, slice_index_or}
use Rattle.sm_least.specs.Steps.{rows_in}
use Rattle.sm_least.proofs.gates.find_last.Given as goal

abbrev pub invariant-loop-p : goal.invariant-loop-p
invariant-loop-p l = record {
  one_each : length l.until ≡ length l.shut;
  few : (q : ℕ) → q < l.p → slice_index l.until q ≤ length (slice_index_or (rows_in l.shut) q []);
  past : (q a : ℕ) → q < l.p → slice_index l.until q ≤ a → a < length (slice_index_or (rows_in l.shut) q []) → slice_index_or (slice_index_or (rows_in l.shut) q []) a false ≡ true;
}
