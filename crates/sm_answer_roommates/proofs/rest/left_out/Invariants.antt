use Rattle.sm_answer_roommates.specs.Resting.{AreLeftOutBelow}
use Rattle.sm_answer_roommates.proofs.rest.left_out.Given as goal

abbrev pub invariant-loop-x : goal.invariant-loop-x
invariant-loop-x l = AreLeftOutBelow l.market l.partition.next l.x l.out.items
