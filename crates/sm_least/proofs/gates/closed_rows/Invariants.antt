use Rattle.std.proofs.Common.{◌≡◌, ℕ, ◌<◌, true, false, [], length, take, slice_index_or}
use Rattle.sm_market.specs.Lists.{row}
use Rattle.sm_market.specs.Vectors.{rows_of}
use Rattle.sm_least.specs.Steps.{rows_in, AreRowsFor}
use Rattle.sm_least.proofs.gates.closed_rows.Given as goal

abbrev pub invariant-loop-row : goal.invariant-loop-row
invariant-loop-row l = record {
  rows : AreRowsFor (rows_of (take l.row-index l.levels)) (rows_in l.rows.items);
  shut : (p a : ℕ) → p < l.row-index → a < length (row (rows_of l.levels) p) → slice_index_or (slice_index_or (rows_in l.rows.items) p []) a false ≡ true;
}
