use Rattle.sm_lists.specs.Rows.{rows_of}
use Rattle.sm_room.proofs.EntryLemmas.{IsWalked}
use Rattle.sm_room.proofs.entries.check_list.Given as goal

abbrev pub invariant-loop-i : goal.invariant-loop-i
invariant-loop-i l = IsWalked (rows_of l.lists) l.x l.i l.met
