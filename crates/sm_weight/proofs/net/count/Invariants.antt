use Rattle.std.proofs.Common.{◌≡◌, length}
use Rattle.sm_lists.specs.Sums.{sum_to}
use Rattle.sm_market.specs.Lists.{row}
use Rattle.sm_market.specs.Vectors.{rows_of}
use Rattle.sm_weight.proofs.net.count.Given as goal

abbrev pub invariant-loop-k : goal.invariant-loop-k
invariant-loop-k l = l.count ≡ sum_to (λ k. length (row (rows_of l.lists) k)) l.k
