-- The second net of a flow that is given by its lines, as a net of gains and bonds: it has no needs, and its bonds are residual steps of
-- the flow.
use Rattle.std.specs.Prelude.{ℕ, ◌==◌, ◌&&◌, ◌<◌, not, List, length}
use Rattle.std.specs.List.{flat_map}
use Rattle.sm_theory.specs.Net.{Net, sink_of}
use Rattle.sm_theory.specs.FlowLines.{line_at}
use Rattle.sm_theory.specs.declared.flow_lines.FlowLine.{FlowLine}
use Rattle.sm_check_net.specs.CheckedNets.{NetParts, net_of_parts, IsOnEdge}
use Rattle.sm_check_net.specs.Residual.{pair_if, residual_steps}

-- each line is on an edge that leads not from the source to the sink
abbrev pub AreOnEdges : Net → List FlowLine → Type 0
AreOnEdges net lines = (a : ℕ) → a < length lines → IsOnEdge net (line_at lines a)

-- a step, unless it begins at the sink or ends at the source
abbrev pub inner_step : Net → ℕ × ℕ → List (ℕ × ℕ)
inner_step net step = pair_if (not (step.0 == sink_of net) && not (step.1 == 0)) step.0 step.1

-- the residual steps that neither begin at the sink nor end at the source
abbrev pub inner_steps : NetParts → List FlowLine → List (ℕ × ℕ)
inner_steps parts lines = flat_map (inner_step (net_of_parts parts)) (residual_steps parts lines)
