use Rattle.std.proofs.Common.{◌≡◌, ◌++◌, take}
use Rattle.std.specs.List.{flat_map}
use Rattle.sm_market.specs.Vectors.{rows_of}
use Rattle.sm_weight.specs.Net.{forbidden_edges}
use Rattle.sm_weight.proofs.net.add_forbidden.Given as goal

abbrev pub invariant-loop-p : goal.invariant-loop-p
invariant-loop-p l = l.edges.items ≡ l.initial.edges.items ++ flat_map (forbidden_edges l.poset.lists (rows_of l.levels) l.poset.first.places l.poset.rotations) (take l.p-index l.pairs)
