use Rattle.std.proofs.Common.{◌≡◌, ◌++◌}
use Rattle.sm_weight.specs.Net.{joined, gain_edges}
use Rattle.sm_weight.proofs.net.add_gains.Given as goal

abbrev pub invariant-loop-k : goal.invariant-loop-k
invariant-loop-k l = l.edges.items ≡ l.initial.edges.items ++ joined (gain_edges l.sink l.gains) l.k
