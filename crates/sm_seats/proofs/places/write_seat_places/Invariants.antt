use Rattle.std.proofs.Common.{◌≡◌, ◌+◌, ◌-◌, ◌<◌, map}
use Rattle.std.specs.List.{range_with_len}
use Rattle.std.specs.Prelude.{vec_len, vec_capacity}
use Rattle.sm_seats.specs.Tables.{seats_listed}
use Rattle.sm_seats.proofs.TableLemmas.{IsListed}
use Rattle.sm_seats.proofs.places.write_seat_places.Given as goal

abbrev pub invariant-loop-place : goal.invariant-loop-place
invariant-loop-place l = record {
  counted : IsListed l.instance l.p l.place l.before;
  places : l.places.items ≡ map (seats_listed l.instance l.p) (range_with_len 0 l.place);
  room : vec_len l.places + (l.count - l.place) < vec_capacity l.places;
}
