use Rattle.std.proofs.Common.{◌≡◌, ◌++◌, take}
use Rattle.sm_weight.specs.Net.{need_edges_of}
use Rattle.sm_weight.proofs.net.add_needs_of.Given as goal

abbrev pub invariant-loop-i : goal.invariant-loop-i
invariant-loop-i l = l.edges.items ≡ l.initial.edges.items ++ need_edges_of l.k (take l.i-index l.needs)
