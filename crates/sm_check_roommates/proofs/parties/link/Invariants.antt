use Rattle.sm_check_roommates.specs.PartiesKept.{AreLinked}
use Rattle.sm_check_roommates.proofs.parties.link.Given as goal

abbrev pub invariant-loop-j : goal.invariant-loop-j
invariant-loop-j l = AreLinked l.party l.fn.next l.j l.next
