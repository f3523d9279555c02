use Rattle.std.proofs.Common.{◌≡◌, ℕ, ◌<◌, ◌≤◌, length, get_or}
use Rattle.sm_market.specs.Lists.{row}
use Rattle.sm_market.specs.Vectors.{rows_of}
use Rattle.sm_market.specs.Entries.{IsSound}
use Rattle.sm_market.proofs.entries.check_entries.Given as goal

abbrev pub invariant-loop-a : goal.invariant-loop-a
invariant-loop-a l = record {
  sound : (c j : ℕ) → c < l.a → j < length (row (rows_of l.rows) c) → IsSound (rows_of l.rows) (rows_of l.others) c j;
  met_long : length l.met ≡ length (rows_of l.others);
  met_before : (b : ℕ) → get_or l.met b 0 ≤ l.a;
}
