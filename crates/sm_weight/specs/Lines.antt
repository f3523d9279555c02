-- The lines of a maximum flow.
use Rattle.std.specs.Prelude.{◌≡◌, ℕ, zero, suc, ◌<◌, Bool, List, [], ◌∷◌, ◌++◌, length}
use Rattle.sm_flow.specs.Flowing.{amount, is_in}
use Rattle.sm_theory.specs.ClosedSets.{is_member}
use Rattle.sm_theory.specs.Net.{Net, NoneLeaves}
use Rattle.sm_theory.specs.FlowLines.{amount_on, AreFlowLines}
use Rattle.sm_theory.specs.declared.flow_lines.FlowLine.{FlowLine}
use Rattle.sm_theory.specs.Flows.{IsFlow, flow_value, IsResidualStep, IsResidualReach}
use Rattle.sm_weight.specs.declared.edges.Edge.{Edge}
use Rattle.sm_weight.specs.Edges.{edge_at}

-- the line of an amount on an edge, unless it is 0, and those of the first n amounts
abbrev pub amount_line : Edge → ℕ → List FlowLine
amount_line e zero = []
amount_line e (suc n) = record { from = e.from; to = e.to; amount = suc n } ∷ []

-- the lines of the amounts on the first n edges
abbrev pub lines_to : List Edge → List ℕ → ℕ → List FlowLine
lines_to edges amounts zero = []
lines_to edges amounts (suc n) = lines_to edges amounts n ++ amount_line (edge_at edges n) (amount amounts n)

-- the inner nodes among those that are reached
pub record AreReached (reached : List Bool) (size : ℕ) (members : List Bool) : Type 0 where
  pub one_each : length members ≡ size
  pub same : (k : ℕ) → k < size → is_member members k ≡ is_in reached (suc k)

-- a flow, by its lines, with its value and its residual reach, which no residual step leaves: so the reach is a least cut
-- (Ford and Fulkerson 1956)
pub record IsCutFound (net : Net) (members : List Bool) (lines : List FlowLine) (value : ℕ) : Type 0 where
  pub ordered : AreFlowLines net lines
  pub is_flow : IsFlow net (amount_on lines)
  pub carries : flow_value net (amount_on lines) ≡ value
  pub reach : IsResidualReach net (amount_on lines) members
  pub unleft : NoneLeaves net (IsResidualStep net (amount_on lines)) members
