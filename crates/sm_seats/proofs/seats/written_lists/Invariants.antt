use Rattle.std.proofs.Common.{◌≡◌, take}
use Rattle.sm_agents.specs.Written.{lists_of}
use Rattle.sm_seats.proofs.seats.written_lists.Given as goal

abbrev pub invariant-loop-p : goal.invariant-loop-p
invariant-loop-p l = l.lists ≡ lists_of (take l.p l.instance.proposers)
