use Rattle.std.proofs.Common.{◌≡◌, ◌+◌, ◌-◌, ◌≤◌, map}
use Rattle.std.specs.List.{range_with_len}
use Rattle.std.specs.Prelude.{vec_len, vec_capacity}
use Rattle.sm_seats.specs.Tables.{mutual_before}
use Rattle.sm_seats.proofs.TableLemmas.{IsCounted}
use Rattle.sm_seats.proofs.places.write_mutual_places.Given as goal

abbrev pub invariant-loop-place : goal.invariant-loop-place
invariant-loop-place l = record {
  counted : IsCounted l.instance.reviewers l.instance.proposers l.r l.place l.before;
  places : l.places.items ≡ map (mutual_before l.instance l.r) (range_with_len 0 l.place);
  room : vec_len l.places + (l.count - l.place) ≤ vec_capacity l.places;
}
