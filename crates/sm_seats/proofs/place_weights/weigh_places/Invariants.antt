use Rattle.std.proofs.Common.{◌≡◌, map, Some}
use Rattle.std.specs.List.{range_with_len}
use Rattle.sm_seats.specs.Seating.{at_places}
use Rattle.sm_theory.specs.Sizes.{weights_in}
use Rattle.sm_seats.specs.PlaceWeights.{AreLight, weigh}
use Rattle.sm_seats.proofs.place_weights.weigh_places.Given as goal

-- the weights of the proposers so far
abbrev pub invariant-loop-p : goal.invariant-loop-p
invariant-loop-p l = record {
  weights : weights_in l.weights.items ≡ map (at_places l.seats (λ p i. weigh l.weighing l.instance p (Some i))) (range_with_len 0 l.p);
  light : AreLight (weights_in l.weights.items);
}
