use Rattle.std.proofs.Common.{◌≡◌, ◌*◌, ◌≤◌, map}
use Rattle.std.specs.List.{range_with_len}
use Rattle.sm_seats.specs.SeatMarket.{seats_before}
use Rattle.sm_seats.proofs.counts.add_first_seats.Given as goal

abbrev pub invariant-loop-r : goal.invariant-loop-r
invariant-loop-r l = record {
  firsts : l.firsts.items ≡ map (seats_before l.instance) (range_with_len 0 l.r);
  seats : l.seats ≡ seats_before l.instance l.r;
  seats_fit : l.seats ≤ l.r * 4096;
  searched : l.search ≡ l.instance;
}
