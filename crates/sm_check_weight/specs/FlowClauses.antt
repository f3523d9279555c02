-- The clauses on the lines of a flow, over the net.
use Rattle.std.specs.Prelude.{ℕ, List, Option, filter_map}
use Rattle.sm_theory.specs.Net.{Net}
use Rattle.sm_theory.specs.FlowLines.{IsNewEdge, IsWithinRoom}
use Rattle.sm_theory.specs.declared.flow_lines.FlowLine.{FlowLine}
use Rattle.sm_report.specs.Lines.{LineData}
use Rattle.sm_check_clauses.specs.Said.{flow_in, second_flow_in}
use Rattle.sm_theory.specs.declared.flow_lines.FlowLevel.{FlowLevel}
use Rattle.sm_theory.specs.declared.flow_lines.FlowLevel.TheVariants.{First, Second}
use Rattle.sm_check_clauses.specs.declared.verdicts.Reason.{Reason}
use Rattle.sm_check_clauses.specs.declared.verdicts.Reason.TheVariants as reason

-- a line with this amount from one end to another
abbrev pub flow_line : (from to amount : ℕ) → FlowLine
flow_line from to amount = record { from = from; to = to; amount = amount }

-- the line of one of the flows
abbrev pub amount_in : FlowLevel → LineData → Option FlowLine
amount_in First line = flow_in line
amount_in Second line = second_flow_in line

-- all lines of it
abbrev pub flows_of : FlowLevel → List LineData → List FlowLine
flows_of level lines = filter_map (amount_in level) lines

-- at a line of a flow on the nodes of a net, behind those before it
abbrev pub NextHolds : Net → List FlowLine → FlowLine → Reason → Type 0
NextHolds net before line reason.NoEdge = IsNewEdge net before line
NextHolds net before line reason.OverRoom = IsWithinRoom net line
NextHolds net before line _ = Unit {0}
