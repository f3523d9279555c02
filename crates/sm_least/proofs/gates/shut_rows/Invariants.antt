use Rattle.std.proofs.Common.{ℕ, ◌<◌, ◌≤◌, [], slice_index, slice_index_or}
use Rattle.sm_market.specs.Lists.{row}
use Rattle.sm_market.specs.Vectors.{rows_of}
use Rattle.sm_least.specs.Steps.{AreShut, rows_in, AreRowsFor}
use Rattle.sm_least.proofs.gates.shut_rows.Given as goal

abbrev pub invariant-loop-p : goal.invariant-loop-p
invariant-loop-p l = record {
  rows : AreRowsFor (rows_of l.levels) (rows_in l.shut);
  shut : (q : ℕ) → q < l.p → AreShut (row (rows_of l.levels) q) (λ v. (slice_index l.low q ≤ v) × (v ≤ slice_index l.high q)) (slice_index_or (rows_in l.shut) q []);
}
