use Rattle.std.proofs.Common.{◌≡◌, ◌++◌}
use Rattle.sm_market.specs.Vectors.{rows_of}
use Rattle.sm_weight.specs.Net.{joined, need_edges}
use Rattle.sm_weight.proofs.net.add_needs.Given as goal

abbrev pub invariant-loop-k : goal.invariant-loop-k
invariant-loop-k l = l.edges.items ≡ l.initial.edges.items ++ joined (need_edges (rows_of l.needs)) l.k
