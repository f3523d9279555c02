use Rattle.std.proofs.Common.{◌≡◌, ℕ, ◌<◌, true}
use Rattle.sm_market.specs.Pairing.{IsPairingOf}
use Rattle.sm_theory.specs.Values.{rotations_of}
use Rattle.sm_successors.specs.Search.{IsSearchAt}
use Rattle.sm_rotations.specs.Noting.{AreNoted}
use Rattle.sm_rotations.specs.Walking.{IsWalking, AreFound, is_finished}
use Rattle.sm_rotations.proofs.WalkSteps.{steps_left}
use Rattle.sm_rotations.proofs.walk.walk.Given as goal

abbrev pub invariant-loop-p : goal.invariant-loop-p
invariant-loop-p l = record {
  made : IsPairingOf l.market l.m;
  search : IsSearchAt l.market l.m.places l.from;
  found : AreFound l.market l.m.places l.trail.stack.items 1 l.from;
  walking : IsWalking l.market l.best.places l.m.places (rotations_of l.rotations.items) l.trail.finished.items l.trail.stack.items l.trail.spots.items;
  noted : AreNoted l.market l.best.places (rotations_of l.rotations.items) l.notes;
  done : (q : ℕ) → q < l.p → is_finished l.trail.finished.items q ≡ true;
}

abbrev pub invariant-steps : goal.invariant-steps
invariant-steps l = record {
  made : IsPairingOf l.market l.m;
  search : IsSearchAt l.market l.m.places l.from;
  found : AreFound l.market l.m.places l.trail.stack.items 1 l.from;
  walking : IsWalking l.market l.best.places l.m.places (rotations_of l.rotations.items) l.trail.finished.items l.trail.stack.items l.trail.spots.items;
  noted : AreNoted l.market l.best.places (rotations_of l.rotations.items) l.notes;
  done : (q : ℕ) → q < l.p → is_finished l.trail.finished.items q ≡ true;
}

abbrev pub decreases-steps : goal.decreases-steps
decreases-steps l = steps_left l.market l.m.places l.trail.finished.items l.trail.stack.items l.trail.spots.items
