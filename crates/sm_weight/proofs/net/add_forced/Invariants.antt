use Rattle.std.proofs.Common.{◌≡◌, ◌++◌, take}
use Rattle.std.specs.List.{flat_map}
use Rattle.sm_market.specs.Vectors.{rows_of}
use Rattle.sm_weight.specs.Net.{forced_edges}
use Rattle.sm_weight.proofs.net.add_forced.Given as goal

abbrev pub invariant-loop-p : goal.invariant-loop-p
invariant-loop-p l = l.edges.items ≡ l.initial.edges.items ++ flat_map (forced_edges l.poset.lists (rows_of l.levels) l.poset.first.places l.poset.rotations) (take l.p-index l.pairs)
