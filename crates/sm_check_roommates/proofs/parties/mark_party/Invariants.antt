use Rattle.sm_check_roommates.specs.PartiesKept.{AreMet}
use Rattle.sm_check_roommates.proofs.parties.mark_party.Given as goal

abbrev pub invariant-loop-j : goal.invariant-loop-j
invariant-loop-j l = AreMet l.party l.fn.met l.j l.met
