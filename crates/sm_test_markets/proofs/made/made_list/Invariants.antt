use Rattle.std.proofs.Common.{◌≤◌, length}
use Rattle.sm_test_markets.proofs.made.made_list.Given as goal

abbrev pub invariant-loop-k : goal.invariant-loop-k
invariant-loop-k g l = length l.list.items ≤ l.k
