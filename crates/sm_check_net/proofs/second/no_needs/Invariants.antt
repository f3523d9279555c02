use Rattle.std.proofs.Common.{◌≡◌, [], replicate}
use Rattle.sm_lists.specs.Rows.{rows_of}
use Rattle.sm_check_net.proofs.second.no_needs.Given as goal

abbrev pub invariant-loop-k : goal.invariant-loop-k
invariant-loop-k l = rows_of l.needs.items ≡ replicate l.k []
