use Rattle.std.proofs.Common.{◌≡◌, take}
use Rattle.sm_check_net.proofs.set_matching.first_places.Given as goal

abbrev pub invariant-loop-p : goal.invariant-loop-p
invariant-loop-p l = l.places.items ≡ take l.p l.first.places.proposers
