use Rattle.std.proofs.Common.{◌≡◌, ◌≤◌}
use Rattle.sm_text.specs.Limits.{most_seat_entries}
use Rattle.sm_seats.specs.SeatEntries.{seat_entries_before}
use Rattle.sm_seats.proofs.counts.first_too_many.Given as goal

abbrev pub invariant-loop-r : goal.invariant-loop-r
invariant-loop-r l = record {
  entries : l.entries ≡ seat_entries_before l.instance l.r;
  few : l.entries ≤ most_seat_entries;
}
