-- Lists of edges. An edge without a bound has the room `None`.
use Rattle.std.specs.Prelude.{◌≡◌, ℕ, ◌==◌, ◌+◌, ◌<◌, ◌≤◌, ◌⊎◌, if◌then◌else◌, List, [], ◌∷◌, Option, Some, None, length, map, slice_index_or, sum_by, Contains}
use Rattle.sm_flow.specs.Graph.{Graph}
use Rattle.sm_flow.specs.declared.net.Edge.{Edge as GraphEdge}
use Rattle.sm_flow.specs.declared.net.Room.{Room}
use Rattle.sm_flow.specs.declared.net.Room.TheVariants.{Bounded, Unbounded}
use Rattle.sm_theory.specs.Net.{Net, sink_of, room_of, IsUnbounded, HasEdge}
use Rattle.sm_theory.specs.FlowLines.{AreEndsBefore}
use Rattle.sm_weight.specs.declared.edges.Edge.{Edge}

-- the edge with a number
abbrev pub edge_at : List Edge → ℕ → Edge
edge_at edges e = slice_index_or edges e (record { from = 0; to = 0; room = None })

-- an edge without a bound, unless it would be a loop
abbrev pub loose : ℕ → ℕ → List Edge
loose from to = if from == to then [] else record { from = from; to = to; room = None } ∷ []

-- what a room counts in a sum of rooms: its bound, where it has one
abbrev pub room_size : Option ℕ → ℕ
room_size None = 0
room_size (Some bound) = bound

-- the sum of the rooms of some edges
abbrev pub room_total : List Edge → ℕ
room_total edges = sum_by (λ e. room_size e.room) edges

-- two edges lead from the same node to the same node
abbrev pub HaveSameEnds : Edge → Edge → Type 0
HaveSameEnds x y = (x.from ≡ y.from) × (x.to ≡ y.to)

-- the ends of one are before those of another
abbrev pub IsEdgeBefore : Edge → Edge → Type 0
IsEdgeBefore x y = AreEndsBefore x.from x.to y.from y.to

-- and with the same ends one without a bound comes first
abbrev pub IsEdgeUpTo : Edge → Edge → Type 0
IsEdgeUpTo x y = IsEdgeBefore x y ⊎ (HaveSameEnds x y × (y.room ≡ None → x.room ≡ None))

-- neighbours are in order
abbrev pub AreEdgesInOrder : List Edge → Type 0
AreEdgesInOrder edges = (k : ℕ) → k + 1 < length edges → IsEdgeUpTo (edge_at edges k) (edge_at edges (k + 1))

-- the ends rise
abbrev pub AreEdgesRising : List Edge → Type 0
AreEdgesRising edges = (a b : ℕ) → a < b → b < length edges → IsEdgeBefore (edge_at edges a) (edge_at edges b)

-- one of the edges has the ends of this one, and no bound where this one has none
pub record IsCovered (edges : List Edge) (e : Edge) : Type 0 where
  pub at : ℕ
  pub there : at < length edges
  pub ends : HaveSameEnds (edge_at edges at) e
  pub unbounded : e.room ≡ None → (edge_at edges at).room ≡ None

-- the edges with different ends, in order
pub record AreMerged (all once : List Edge) : Type 0 where
  pub rising : AreEdgesRising once
  pub among : (a : ℕ) → a < length once → Contains all (edge_at once a)
  pub covered : (e : Edge) → Contains all e → IsCovered once e
  pub short : length once ≤ length all
  pub small : room_total once ≤ room_total all

-- the ends of all edges are among so many nodes
abbrev pub AreOnNodes : ℕ → List Edge → Type 0
AreOnNodes nodes edges = (e : ℕ) → e < length edges → ((edge_at edges e).from < nodes) × ((edge_at edges e).to < nodes)

-- rooms and edges as the graph of a flow has them
abbrev pub room_in : Option ℕ → Room
room_in None = Unbounded
room_in (Some bound) = Bounded bound

-- an edge as the graph of a flow has it
abbrev pub graph_edge : Edge → GraphEdge
graph_edge e = record { from = e.from; to = e.to; room = room_in e.room }

-- the graph of some edges on so many nodes
abbrev pub graph_of : ℕ → List Edge → Graph
graph_of nodes edges = record { nodes = nodes; edges = map graph_edge edges }

-- the room from one node to another is this one; a bounded one counts for nothing where an unbounded one is there
abbrev pub IsRoomOf : Net → ℕ → ℕ → Option ℕ → Type 0
IsRoomOf net i j None = IsUnbounded net i j
IsRoomOf net i j (Some bound) = (¬ IsUnbounded net i j) × (room_of net i j ≡ bound) × (0 < bound)

-- the edges of a net, in the order of their ends (Ford and Fulkerson 1956)
pub record AreEdges (net : Net) (edges : List Edge) : Type 0 where
  pub nodes : AreOnNodes (sink_of net + 1) edges
  pub rising : AreEdgesRising edges
  pub rooms : (e : ℕ) → e < length edges → IsRoomOf net (edge_at edges e).from (edge_at edges e).to (edge_at edges e).room
  pub all : (i j : ℕ) → HasEdge net i j → (e : ℕ) × (e < length edges) × ((edge_at edges e).from ≡ i) × ((edge_at edges e).to ≡ j)
