-- A small net whose maximum flow is known by hand, so that the definitions mean what they should.
use Rattle.std.specs.Prelude.{ℕ, Bool, true, false, List, [], ◌∷◌}
use Rattle.sm_flow.specs.declared.net.Room.TheVariants.{Bounded, Unbounded}
use Rattle.sm_flow.specs.Graph.{Graph, IsNet}
use Rattle.sm_flow.specs.Flowing.{flowing, IsFlow, IsMaximumFlow, IsUnboundedStep, AreNodes, IsReachable}
use Rattle.sm_flow.specs.Answer.{IsFlowAnswer}

-- edges from 0 to 1 of room 2, from 0 to 2 of room 1, from 1 to 3 of room 1, and from 2 to 3 without bound
abbrev pub small_graph : Graph
small_graph = record {
  nodes = 4;
  edges = record { from = 0; to = 1; room = Bounded 2 }
      ∷ record { from = 0; to = 2; room = Bounded 1 }
      ∷ record { from = 1; to = 3; room = Bounded 1 }
      ∷ record { from = 2; to = 3; room = Unbounded }
      ∷ [];
}

-- from 0 to 3 the maximum flow has one on each edge: the first has room left, so 1 is reached, and no more
abbrev pub HasMaximumFlow : Type 0
HasMaximumFlow = IsNet small_graph
    × IsFlowAnswer small_graph 0 3 (flowing (1 ∷ 1 ∷ 1 ∷ 1 ∷ []) 2 (true ∷ true ∷ false ∷ false ∷ []))

-- a flow of nothing is one, but not a maximum one whatever it says to reach; two on the first edge are not conserved
-- at 1, and two on the first and the third are too many for the third
abbrev pub OthersAreNone : Type 0
OthersAreNone = IsFlow small_graph 0 3 (0 ∷ 0 ∷ 0 ∷ 0 ∷ []) 0
    × ((reached : List Bool) → ¬ IsMaximumFlow small_graph 0 3 (flowing (0 ∷ 0 ∷ 0 ∷ 0 ∷ []) 0 reached))
    × ((value : ℕ) → ¬ IsFlow small_graph 0 3 (2 ∷ 1 ∷ 1 ∷ 1 ∷ []) value)
    × ((value : ℕ) → ¬ IsFlow small_graph 0 3 (2 ∷ 1 ∷ 2 ∷ 1 ∷ []) value)

-- from 2 to 3 leads a path of unbounded edges, and from 1 to 3 none
abbrev pub HasUnboundedPath : Type 0
HasUnboundedPath = AreNodes (IsUnboundedStep small_graph) 2 (2 ∷ 3 ∷ []) 3
    × (¬ IsReachable (IsUnboundedStep small_graph) 1 3)
