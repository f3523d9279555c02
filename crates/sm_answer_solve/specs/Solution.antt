-- The answer of `solve`.
use Rattle.std.specs.Prelude.{◌≡◌, ℕ, List, [], ◌∷◌, ◌++◌, length, Option, Some}
use Rattle.sm_answer.specs.Lines.{lines_from}
use Rattle.sm_answer.specs.MatchingLines.{pair_line}
use Rattle.sm_agents.specs.Written.{Written}
use Rattle.sm_instance.specs.Stable.{IsBestOf}
use Rattle.sm_agents.specs.declared.kinds.Side.{Side}
use Rattle.sm_report.specs.Heads.{HeadData}
use Rattle.sm_report.specs.Lines.{LineData}

-- the pairs of a matching in the order of the proposers
abbrev pub solve_lines : Side → Written → List (Option ℕ) → List LineData
solve_lines side w places =
    LineData.Answer (HeadData.Solve (Some side)) ∷ (lines_from (pair_line w places) 0 (length w.proposers) ++ LineData.End ∷ [])

-- the lines are the pairs of the best stable matching of a side
pub record IsSolution (side : Side) (w : Written) (answer : List LineData) : Type 0 where
  pub places : List (Option ℕ)
  pub best : IsBestOf side w places
  pub shows : answer ≡ solve_lines side w places
