-- Names with a space before them.
use Rattle.std.specs.Prelude.{◌≡◌, ℕ, ◌<◌, List, [], length, slice_index_or}
use Rattle.sm_text.specs.Writer.{IsSpacedName}
use Rattle.sm_text.specs.declared.spaced_name.SpacedName.{SpacedName}
use Rattle.sm_agents.specs.Written.{AgentData, agent_at}
use Rattle.sm_agents.specs.declared.spaced_sides.SpacedSides.{SpacedSides}

-- that of an agent
abbrev pub spaced_at : List SpacedName → ℕ → SpacedName
spaced_at spaced a = slice_index_or spaced a (record { bytes = []; len = 0 })

-- those of the first n agents
pub record AreSpaced (agents : List AgentData) (n : ℕ) (spaced : List SpacedName) : Type 0 where
  pub one_each : length spaced ≡ n
  pub names : (a : ℕ) → a < n → IsSpacedName (spaced_at spaced a).bytes (spaced_at spaced a).len (agent_at agents a).name

-- those of all agents of both sides
pub record AreSpacedSides (ps rs : List AgentData) (sides : SpacedSides) : Type 0 where
  pub proposers : AreSpaced ps (length ps) sides.proposers.items
  pub reviewers : AreSpaced rs (length rs) sides.reviewers.items
