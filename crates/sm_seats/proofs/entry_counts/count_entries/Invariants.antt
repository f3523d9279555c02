use Rattle.std.proofs.Common.{◌≡◌, map}
use Rattle.std.specs.List.{range_with_len}
use Rattle.sm_seats.specs.Counted.{acceptable_at}
use Rattle.sm_seats.specs.SeatEntries.{seat_entries_before}
use Rattle.sm_seats.proofs.entry_counts.count_entries.Given as goal

abbrev pub invariant-loop-r : goal.invariant-loop-r
invariant-loop-r l = record {
  acceptable : l.counts.items ≡ map (acceptable_at l.instance) (range_with_len 0 l.r);
  entries : l.entries ≡ seat_entries_before l.instance l.r;
}
