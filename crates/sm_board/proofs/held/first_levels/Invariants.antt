use Rattle.std.proofs.Common.{◌≡◌, ℕ, ◌<◌, length, slice_index}
use Rattle.sm_market.specs.Lists.{row}
use Rattle.sm_market.specs.Vectors.{rows_of}
use Rattle.sm_board.proofs.held.first_levels.Given as goal

abbrev pub invariant-loop-p : goal.invariant-loop-p
invariant-loop-p l = record {
  level_each : length l.first.items ≡ l.p;
  are : (q : ℕ) → q < l.p → slice_index l.first.items q ≡ slice_index (row (rows_of l.levels) q) 0;
}
