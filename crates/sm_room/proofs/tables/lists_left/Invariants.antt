use Rattle.sm_lists.specs.Rows.{rows_of}
use Rattle.sm_room.proofs.LeftLemmas.{AreListsLeft}
use Rattle.sm_room.proofs.tables.lists_left.Given as goal

abbrev pub invariant-loop-x : goal.invariant-loop-x
invariant-loop-x l = AreListsLeft l.market l.bounds l.x (rows_of l.lists.items)
