-- The laws of flows and of the lightest allowed matching. Each is the contract of a function of `laws`.
use Rattle.std.specs.Prelude.{◌≡◌, ℕ, suc, ◌≤◌, ◌⊎◌, ◌↔◌, Bool, true, false, List, ℤ}
use Rattle.sm_market.specs.Lists.{Lists}
use Rattle.sm_market.specs.Matching.{Places, standing}
use Rattle.sm_market.specs.Stable.{IsStable}
use Rattle.sm_theory.specs.ClosedSets.{IsMember, IsClosed, matching_of}
use Rattle.sm_theory.specs.Vectors.{IsAllowed}
use Rattle.sm_theory.specs.Net.{Net, sink_of, IsUnbounded, NoneLeaves, IsCut, cut_of, IsLeastCut, IsReachable}
use Rattle.sm_theory.specs.Flows.{IsFlow, flow_value, IsResidualStep, IsResidualReach}
use Rattle.sm_theory.specs.FlowLines.{amount_on, amount_from, AreOnNodes, AreWithin, IsConserved}
use Rattle.sm_theory.specs.declared.flow_lines.FlowLine.{FlowLine}
use Rattle.sm_theory.specs.Conditions.{allows_nothing, net_of, IsNetGround, IsLightestAllowed}

-- no flow is greater than a cut (Ford and Fulkerson 1956)
abbrev pub NoFlowAboveCut : Type 0
NoFlowAboveCut = (net : Net) (flow : ℕ → ℕ → ℕ) (set : List Bool) → IsFlow net flow → IsCut net set → flow_value net flow ≤ cut_of net set

-- a flow's value is the room of a cut exactly where no residual step leaves the cut (Ford and Fulkerson 1956)
abbrev pub FullCutsAreUnleft : Type 0
FullCutsAreUnleft = (net : Net) (flow : ℕ → ℕ → ℕ) (set : List Bool) → IsFlow net flow → IsCut net set
    → (flow_value net flow ≡ cut_of net set) ↔ NoneLeaves net (IsResidualStep net flow) set

-- amounts on lines are a flow exactly where they are within the rooms and conserved, and its value is what leaves the source
abbrev pub FlowOfLines : Type 0
FlowOfLines = (net : Net) (lines : List FlowLine) → AreOnNodes (suc (sink_of net)) lines
    → (IsFlow net (amount_on lines) ↔ (AreWithin net lines × IsConserved net.size lines))
    × (flow_value net (amount_on lines) ≡ amount_from lines 0)

-- where no residual step leaves the reach of a flow, the reach is a least cut, its cut is the flow's value, and it lies
-- inside every least cut (Ford and Fulkerson 1956)
abbrev pub ReachIsLeastCut : Type 0
ReachIsLeastCut = (net : Net) (flow : ℕ → ℕ → ℕ) (set : List Bool) → IsFlow net flow → IsResidualReach net flow set → NoneLeaves net (IsResidualStep net flow) set
    → IsLeastCut net set × (flow_value net flow ≡ cut_of net set)
    × ((other : List Bool) → IsLeastCut net other → (k : ℕ) → IsMember set k → IsMember other k)

-- where no pair allows nothing by itself, the sets that no unbounded edge leaves are the closed sets whose matching is
-- allowed; and where one does, none is allowed (Gusfield and Irving 1989, chapter 3)
abbrev pub CutsAreAllowed : Type 0
CutsAreAllowed = (l : Lists) (levels : List (List ℕ)) (weights : List (List ℤ)) (forced forbidden : List (ℕ × ℕ)) (first : Places) (rotations : List (List (ℕ × ℕ))) (needs : List (List ℕ)) (set : List Bool)
    → IsNetGround l levels first rotations needs
    → ((allows_nothing l levels forced forbidden first rotations ≡ false) × IsCut (net_of l levels weights forced forbidden first rotations needs) set)
    ↔ (IsClosed l rotations set × IsAllowed levels forced forbidden (matching_of l first rotations set))

-- then a least cut is the set of a lightest allowed matching (Irving, Leather and Gusfield 1987)
abbrev pub LeastCutIsLightest : Type 0
LeastCutIsLightest = (l : Lists) (levels : List (List ℕ)) (weights : List (List ℤ)) (forced forbidden : List (ℕ × ℕ)) (first : Places) (rotations : List (List (ℕ × ℕ))) (needs : List (List ℕ)) (set : List Bool)
    → IsNetGround l levels first rotations needs
    → ((allows_nothing l levels forced forbidden first rotations ≡ false) × IsLeastCut (net_of l levels weights forced forbidden first rotations needs) set)
    ↔ (IsClosed l rotations set × IsLightestAllowed l levels weights forced forbidden (matching_of l first rotations set))

-- and where no residual step leaves the reach of a flow, that of the reach is the best for all proposers among them
abbrev pub ReachIsBestLightest : Type 0
ReachIsBestLightest = (l : Lists) (levels : List (List ℕ)) (weights : List (List ℤ)) (forced forbidden : List (ℕ × ℕ)) (first : Places) (rotations : List (List (ℕ × ℕ))) (needs : List (List ℕ)) (flow : ℕ → ℕ → ℕ) (set : List Bool)
    → IsNetGround l levels first rotations needs → allows_nothing l levels forced forbidden first rotations ≡ false
    → let net = net_of l levels weights forced forbidden first rotations needs in
    IsFlow net flow → IsResidualReach net flow set → NoneLeaves net (IsResidualStep net flow) set
    → IsLightestAllowed l levels weights forced forbidden (matching_of l first rotations set)
    × ((n : Places) → IsLightestAllowed l levels weights forced forbidden n → (p : ℕ) → standing l.proposers (matching_of l first rotations set).proposers p ≤ standing l.proposers n.proposers p)

-- nothing is allowed exactly where a pair allows nothing by itself, or a path of unbounded edges leads from the source to
-- the sink
abbrev pub PathWhereNothing : Type 0
PathWhereNothing = (l : Lists) (levels : List (List ℕ)) (weights : List (List ℤ)) (forced forbidden : List (ℕ × ℕ)) (first : Places) (rotations : List (List (ℕ × ℕ))) (needs : List (List ℕ))
    → IsNetGround l levels first rotations needs
    → let net = net_of l levels weights forced forbidden first rotations needs in
    ((allows_nothing l levels forced forbidden first rotations ≡ true) ⊎ IsReachable (IsUnbounded net) 0 (sink_of net)) ↔ ((m : Places) → IsStable l m → ¬ IsAllowed levels forced forbidden m)
