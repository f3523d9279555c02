use Rattle.std.proofs.Common.{◌≡◌, ℕ, ◌<◌, ◌≤◌, ◌↔◌, false, length, slice_index, slice_index_or}
use Rattle.sm_least.proofs.gates.shut_row_above.Given as goal

abbrev pub invariant-loop-a : goal.invariant-loop-a
invariant-loop-a l = record {
  one_each : length l.shut ≡ length l.initial.shut;
  cut : (c : ℕ) → c < l.a → (slice_index_or l.shut c false ≡ false) ↔ (slice_index_or l.initial.shut c false ≡ false) × (slice_index l.ranks c ≤ l.bound);
  left : (c : ℕ) → l.a ≤ c → slice_index_or l.shut c false ≡ slice_index_or l.initial.shut c false;
}
