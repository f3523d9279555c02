-- The lines of an instance, by what they name.
use Rattle.std.specs.Prelude.{◌≡◌, ℕ, ◌<◌, ◌==◌, true, if◌then◌else◌, List, [], length, Option, Some, None, is_some, codes}
use Rattle.std.specs.Option.{option_map_or}
use Rattle.sm_agents.specs.Written.{agent_at}
use Rattle.sm_instance.specs.Inputs.{kind_of, left_of, right_of}
use Rattle.sm_instance.specs.declared.inputs.Input.{Input}
use Rattle.sm_instance_lines.specs.Names.{said_agent, said_pair, said_weight, said_of}
use Rattle.sm_instance_lines.specs.Printed.{header_line, format_of, proposer_line, reviewer_line, weight_line, force_line, forbid_line, order_line}
use Rattle.sm_instance_lines.specs.declared.finding.InstanceLine.{InstanceLine}
use Rattle.sm_instance_lines.specs.declared.finding.InstanceLine.TheVariants.{Header, Proposer, Reviewer, Weight, Force, Forbid, Order, End}

-- the text of a line, without its end
abbrev pub line_text : Input → InstanceLine → List ℕ
line_text input Header = header_line (format_of (said_of input)) (kind_of input)
line_text input (Proposer p) = proposer_line (said_agent (right_of input) (agent_at (left_of input) p))
line_text input (Reviewer r) = reviewer_line (kind_of input) (said_agent (left_of input) (agent_at (right_of input) r))
line_text input (Weight p r weight second) = weight_line (said_weight (left_of input) (right_of input) ((p, r, weight), second))
line_text input (Force p r) = force_line (said_pair (left_of input) (right_of input) (p, r))
line_text input (Forbid p r) = forbid_line (said_pair (left_of input) (right_of input) (p, r))
line_text input Order = option_map_or order_line (said_of input).order []
line_text input End = codes "end"

-- the line at a place where only `end` is left
abbrev pub end_line_at : ℕ → Option InstanceLine
end_line_at place = if place == 0 then Some End else None

-- the agents that a line names are there
abbrev pub IsPair : Input → ℕ → ℕ → Type 0
IsPair input p r = (p < length (left_of input)) × (r < length (right_of input))

-- each agent that a line names is there
abbrev pub NamesAgents : Input → InstanceLine → Type 0
NamesAgents input Header = Unit {0}
NamesAgents input (Proposer p) = p < length (left_of input)
NamesAgents input (Reviewer r) = r < length (right_of input)
NamesAgents input (Weight p r weight second) = IsPair input p r
NamesAgents input (Force p r) = IsPair input p r
NamesAgents input (Forbid p r) = IsPair input p r
NamesAgents input Order = is_some (said_of input).order ≡ true
NamesAgents input End = Unit {0}
