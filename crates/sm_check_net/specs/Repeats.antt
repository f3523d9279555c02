-- Lines of a flow with the ends of earlier ones.
use Rattle.std.specs.Prelude.{◌≡◌, ℕ, ◌<◌, ◌↔◌, Bool, List, length}
use Rattle.sm_theory.specs.ClosedSets.{IsMember}
use Rattle.sm_theory.specs.declared.flow_lines.FlowLine.{FlowLine}
use Rattle.sm_theory.specs.FlowLines.{line_at, HaveSameEnds}

-- the nodes from which and to which a line leads
abbrev pub ends_of : FlowLine → ℕ × ℕ
ends_of line = (line.from, line.to)

-- an earlier line has the ends of this one
pub record IsRepeated (lines : List FlowLine) (a : ℕ) : Type 0 where
  pub at : ℕ
  pub earlier : at < a
  pub same : HaveSameEnds (line_at lines at) (line_at lines a)

-- for each line whether it is repeated
pub record AreRepeats (lines : List FlowLine) (repeats : List Bool) : Type 0 where
  pub one_each : length repeats ≡ length lines
  pub each : (a : ℕ) → a < length lines → IsMember repeats a ↔ IsRepeated lines a
