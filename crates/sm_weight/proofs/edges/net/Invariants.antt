use Rattle.std.proofs.Common.{◌≡◌, take}
use Rattle.sm_weight.specs.Edges.{graph_of}
use Rattle.sm_weight.proofs.edges.net.Given as goal

abbrev pub invariant-loop-edge : goal.invariant-loop-edge
invariant-loop-edge l = l.net ≡ graph_of l.nodes (take l.edge-index l.edges)
