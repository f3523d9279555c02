use Rattle.sm_market.specs.Vectors.{rows_of}
use Rattle.sm_market.proofs.WalkLemmas.{IsWalked}
use Rattle.sm_market.proofs.entries.check_list.Given as goal

abbrev pub invariant-loop-i : goal.invariant-loop-i
invariant-loop-i l = IsWalked (rows_of l.rows) (rows_of l.others) l.a l.i l.met
