use Rattle.std.proofs.Common.{◌<◌, ◌-◌, length}
use Rattle.sm_rotations.specs.Following.{IsSuccessorWalk}
use Rattle.sm_rotations.proofs.exposure.leads_back.Given as goal

abbrev pub invariant-steps : goal.invariant-steps
invariant-steps l = record {
  walk : IsSuccessorWalk l.market l.m.places l.p l.pairs.items l.q;
  in_range : l.q < length l.market.proposers;
}

abbrev pub decreases-steps : goal.decreases-steps
decreases-steps l = length l.market.proposers - length l.pairs.items
