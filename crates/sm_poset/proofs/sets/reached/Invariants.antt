use Rattle.std.proofs.Common.{◌≡◌, nat_le, map, take}
use Rattle.sm_market.specs.Matching.{standing}
use Rattle.sm_poset.proofs.sets.reached.Given as goal

abbrev pub invariant-loop-p : goal.invariant-loop-p
invariant-loop-p l = l.members.items ≡ map (λ leader. nat_le leader.1 (standing l.market.proposers l.m.places.proposers leader.0)) (take l.p-index l.leaders)
