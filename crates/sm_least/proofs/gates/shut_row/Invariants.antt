use Rattle.std.proofs.Common.{◌≡◌, ℕ, ◌<◌, ◌≤◌, ◌↔◌, false, length, slice_index, slice_index_or}
use Rattle.sm_least.proofs.gates.shut_row.Given as goal

abbrev pub invariant-loop-a : goal.invariant-loop-a
invariant-loop-a l = record {
  one_each : length l.shut ≡ length l.levels;
  opens : (c : ℕ) → c < l.a → (slice_index_or l.shut c false ≡ false) ↔ (l.low ≤ slice_index l.levels c) × (slice_index l.levels c ≤ l.high);
}
