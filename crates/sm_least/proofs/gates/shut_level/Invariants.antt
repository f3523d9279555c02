use Rattle.std.proofs.Common.{◌≡◌, ◌≢◌, ℕ, ◌-◌, ◌<◌, ◌≤◌, ◌↔◌, false, length, slice_index, slice_index_or}
use Rattle.sm_least.proofs.gates.shut_level.Given as goal

abbrev pub invariant-stays : goal.invariant-stays
invariant-stays l = record {
  one_each : length l.shut ≡ length l.levels;
  few : l.a ≤ length l.levels;
  shut : (c : ℕ) → c < l.a → (slice_index_or l.shut c false ≡ false) ↔ (slice_index_or l.initial.shut c false ≡ false) × (slice_index l.levels c ≢ l.level);
  left : (c : ℕ) → l.a ≤ c → slice_index_or l.shut c false ≡ slice_index_or l.initial.shut c false;
  higher : (c : ℕ) → l.a ≤ c → c < length l.levels → l.level ≤ slice_index l.levels c;
}

abbrev pub decreases-stays : goal.decreases-stays
decreases-stays l = length l.levels - l.a
