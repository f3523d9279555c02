use Rattle.std.proofs.Common.{◌≡◌, ◌+◌, ◌-◌, ◌≤◌, All, map, Some}
use Rattle.std.specs.List.{range_with_len}
use Rattle.std.specs.Prelude.{vec_len, vec_capacity}
use Rattle.sm_seats.specs.Seating.{written_place}
use Rattle.sm_seats.specs.PlaceWeights.{IsLight, pair_given}
use Rattle.sm_seats.proofs.place_weights.given_at.Given as goal

-- the weights of the places so far, and room for the others
abbrev pub invariant-loop-i : goal.invariant-loop-i
invariant-loop-i l = record {
  weights : l.weights.items ≡ map (λ i. pair_given l.second l.instance l.p (Some (written_place l.seats l.p i))) (range_with_len 0 l.i);
  light : All IsLight l.weights.items;
  room : vec_len l.weights + (l.places - l.i) ≤ vec_capacity l.weights;
}
