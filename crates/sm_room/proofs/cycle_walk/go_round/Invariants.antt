use Rattle.std.proofs.Common.{◌≡◌}
use Rattle.sm_room.specs.Rotating.{met, IsPathKept, IsCycleWalk, AreHints}
use Rattle.sm_room.proofs.WalkLemmas.{unmarked}
use Rattle.sm_room.proofs.cycle_walk.go_round.Given as goal

abbrev pub invariant-steps : goal.invariant-steps
invariant-steps l = record {
  starts : met l.walk.path.items l.x 0 ≡ met l.fn.walk.path.items l.from 0;
  path : IsPathKept l.market l.walk.path.items l.walk.places.items l.walk.marks.items;
  walk : IsCycleWalk l.market l.bounds l.walk.path.items l.walk.places.items l.x;
  hints : AreHints l.market l.bounds l.hints.firsts.items l.hints.seconds.items;
}

abbrev pub decreases-steps : goal.decreases-steps
decreases-steps l = unmarked l.walk.marks.items
