-- The flow of the worked net of three proposers, by its lines.
use Rattle.std.specs.Prelude.{◌≡◌, ℕ, List, [], ◌∷◌}
use Rattle.sm_theory.specs.Flows.{IsFlow, flow_value}
use Rattle.sm_theory.specs.WitnessesFlows.{three_cycle_net}
use Rattle.sm_theory.specs.declared.flow_lines.FlowLine.{FlowLine}
use Rattle.sm_theory.specs.FlowLines.{amount_on, amount_from, IsConserved, IsNewEdge, IsWithinRoom, AreFlowLines}

-- an amount from one node to another, as a line
abbrev pub line : (from to amount : ℕ) → FlowLine
line from to amount = record { from = from; to = to; amount = amount }

-- 4 from the source by the second rotation and the first to the sink
abbrev pub three_cycle_lines : List FlowLine
three_cycle_lines = line 0 2 4 ∷ line 1 3 4 ∷ line 2 1 4 ∷ []

-- the same, and 11 more from the source
abbrev pub greater_lines : List FlowLine
greater_lines = line 0 2 15 ∷ line 1 3 15 ∷ line 2 1 15 ∷ []

-- the same without its last line
abbrev pub broken_lines : List FlowLine
broken_lines = line 0 2 4 ∷ line 1 3 4 ∷ []

-- the lines are a flow of value 4; those above the rooms are none, nor those of which more comes to a node than leaves it
abbrev pub WorkedLines : Type 0
WorkedLines = AreFlowLines three_cycle_net three_cycle_lines
    × IsFlow three_cycle_net (amount_on three_cycle_lines)
    × (flow_value three_cycle_net (amount_on three_cycle_lines) ≡ 4)
    × (amount_from three_cycle_lines 0 ≡ 4)
    × (¬ IsFlow three_cycle_net (amount_on greater_lines))
    × (¬ IsFlow three_cycle_net (amount_on broken_lines))

-- a line on an edge that was named, and lines from a rotation to one that it doesn't need and from the source to the sink, are
-- on no new edge; 14 are the room from the source to the second rotation
abbrev pub EachLine : Type 0
EachLine = IsConserved 2 three_cycle_lines
    × (¬ IsConserved 2 broken_lines)
    × IsNewEdge three_cycle_net broken_lines (line 2 1 3)
    × IsNewEdge three_cycle_net [] (line 0 2 5)
    × (¬ IsNewEdge three_cycle_net three_cycle_lines (line 0 2 5))
    × (¬ IsNewEdge three_cycle_net [] (line 1 2 5))
    × (¬ IsNewEdge three_cycle_net [] (line 0 3 5))
    × IsWithinRoom three_cycle_net (line 0 2 14)
    × (¬ IsWithinRoom three_cycle_net (line 0 2 15))
    × (¬ IsWithinRoom three_cycle_net (line 0 2 0))
    × IsWithinRoom three_cycle_net (line 2 1 100)
