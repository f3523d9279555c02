use Rattle.std.proofs.Common.{◌≡◌, ℕ, ◌<◌, ◌-◌, length, slice_index}
use Rattle.sm_market.specs.Lists.{row}
use Rattle.sm_market.specs.Vectors.{rows_of}
use Rattle.sm_least.proofs.gates.write_highest.Given as goal

abbrev pub invariant-loop-p : goal.invariant-loop-p
invariant-loop-p l = record {
  high_each : length l.high ≡ length l.initial.high;
  highest : (q : ℕ) → q < l.p → slice_index l.high q ≡ slice_index (row (rows_of l.levels) q) (length (row (rows_of l.levels) q) - 1);
}
