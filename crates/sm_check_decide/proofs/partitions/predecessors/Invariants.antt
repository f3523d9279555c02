use Rattle.sm_check_decide.proofs.PartyLemmas.{AreBefore}
use Rattle.sm_check_decide.proofs.partitions.predecessors.Given as goal

abbrev pub invariant-loop-x : goal.invariant-loop-x
invariant-loop-x l = AreBefore l.next l.x l.before.items
