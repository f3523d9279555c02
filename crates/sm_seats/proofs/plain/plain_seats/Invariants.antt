use Rattle.std.proofs.Common.{◌≡◌}
use Rattle.std.specs.List.{flat_map, range_with_len}
use Rattle.sm_seats.specs.SeatMarket.{named_seats}
use Rattle.sm_seats.specs.ReviewerRows.{seat_lists_before}
use Rattle.sm_seats.proofs.plain.plain_seats.Given as goal

abbrev pub invariant-loop-r : goal.invariant-loop-r
invariant-loop-r l = record {
  seats : l.seats.items ≡ flat_map (named_seats l.instance) (range_with_len 0 l.r);
  lists : l.lists ≡ seat_lists_before l.instance l.r;
}
