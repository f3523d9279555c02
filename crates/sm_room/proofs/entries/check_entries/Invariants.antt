use Rattle.std.proofs.Common.{◌≡◌, ℕ, ◌<◌, ◌≤◌, length, get_or}
use Rattle.sm_lists.specs.Rows.{rows_of, row}
use Rattle.sm_room.specs.Entries.{IsSound}
use Rattle.sm_room.proofs.entries.check_entries.Given as goal

abbrev pub invariant-loop-x : goal.invariant-loop-x
invariant-loop-x l = record {
  one_each : length l.met ≡ length (rows_of l.lists);
  met : (y : ℕ) → get_or l.met y 0 ≤ l.x;
  sound : (z j : ℕ) → z < l.x → j < length (row (rows_of l.lists) z) → IsSound (rows_of l.lists) z j;
}
