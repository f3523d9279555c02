use Rattle.std.proofs.Common.{◌≡◌, map, take}
use Rattle.sm_report.specs.Lines.{line_of}
use Rattle.sm_check_clauses.specs.Flows.{on_nodes}
use Rattle.sm_check_weight.specs.FlowClauses.{flows_of}
use Rattle.sm_check_weight.proofs.flow_lines.flow_lines.Given as goal

-- the lines of the flow so far
abbrev pub invariant-loop-line : goal.invariant-loop-line
invariant-loop-line l = l.flow.items ≡ map (on_nodes l.size) (flows_of l.level (map line_of (take l.line-index l.lines)))
