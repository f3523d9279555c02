use Rattle.sm_lists.specs.Rows.{rows_of}
use Rattle.sm_answer_roommates.specs.Walking.{ArePartiesFound}
use Rattle.sm_answer_roommates.proofs.parties.parties_of.Given as goal

abbrev pub invariant-loop-x : goal.invariant-loop-x
invariant-loop-x l = ArePartiesFound l.partition.next l.x l.met (rows_of l.parties.items)
