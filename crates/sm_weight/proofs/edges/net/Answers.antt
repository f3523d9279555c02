use Rattle.std.proofs.Common.{ℕ, ◌+◌, arith, ap, ◌∙◌, List, take}
use Rattle.std.proofs.lemmas.List.{take_all, length-take-le}
use Rattle.std.proofs.lemmas.List.Sums.{sum_by-take-le}
use Rattle.sm_flow.specs.Graph.{Graph, edge_count, room_sum, bounded_part, with_edge}
use Rattle.sm_flow.specs.declared.net.Room.{Room}
use Rattle.sm_weight.specs.declared.edges.Edge.{Edge}
use Rattle.sm_weight.specs.Edges.{edge_at, room_in, room_size, graph_of}
use Rattle.sm_weight.proofs.EdgeLemmas.{edge_count-graph_of, room_sum-graph_of, part_more, with_edge-graph_of}
use Rattle.sm_weight.proofs.edges.net.Goals as goal

pub add_edge-requires-clause-from_in : goal.add_edge-requires-clause-from_in
add_edge-requires-clause-from_in c = let same = ap (λ (g : Graph). g.nodes) c.loop-edge.invariant in omega (arith, (c.requires.nodes c.loop-edge.edge-index c.loop-edge-test.true).0)

pub add_edge-requires-clause-to_in : goal.add_edge-requires-clause-to_in
add_edge-requires-clause-to_in c = let same = ap (λ (g : Graph). g.nodes) c.loop-edge.invariant in omega (arith, (c.requires.nodes c.loop-edge.edge-index c.loop-edge-test.true).1)

pub add_edge-requires-clause-small : goal.add_edge-requires-clause-small
add_edge-requires-clause-small c =
    let i : ℕ = c.loop-edge.edge-index in
    let edges : List Edge = c.args.edges.now in
    omega (
      arith,
      ap room_sum c.loop-edge.invariant,
      ap bounded_part c.room_in.ensures,
      room_sum-graph_of c.args.nodes (take i edges),
      part_more edges i c.loop-edge-test.true,
      sum_by-take-le (λ (e : Edge). room_size e.room) edges (i + 1),
      c.requires.small,
    )

pub add_edge-requires-clause-few : goal.add_edge-requires-clause-few
add_edge-requires-clause-few c =
    omega (arith, ap edge_count c.loop-edge.invariant, edge_count-graph_of c.args.nodes (take c.loop-edge.edge-index c.args.edges.now), length-take-le c.loop-edge.edge-index c.args.edges.now (omega (arith, c.loop-edge-test.true)), c.loop-edge-test.true, c.requires.few)

pub loop-edge-preserved : goal.loop-edge-preserved
loop-edge-preserved c =
    let i : ℕ = c.loop-edge.edge-index in
    let edges : List Edge = c.args.edges.now in
    c.in_ok-add_edge.ensures.added
    ∙ ap (λ (room : Room). with_edge c.loop-edge.net (record { from = (edge_at edges i).from; to = (edge_at edges i).to; room = room })) c.room_in.ensures
    ∙ ap (λ (g : Graph). with_edge g (record { from = (edge_at edges i).from; to = (edge_at edges i).to; room = room_in (edge_at edges i).room })) c.loop-edge.invariant
    ∙ with_edge-graph_of c.args.nodes edges i c.loop-edge-test.true

pub returns : goal.returns
returns c = c.loop-edge.invariant ∙ ap (graph_of c.args.nodes) (take_all c.loop-edge.edge-index c.args.edges.now c.loop-edge-test.false)
