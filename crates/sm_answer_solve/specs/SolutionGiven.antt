-- The answer of `solve` as it is given.
use Rattle.std.specs.Prelude.{ℕ, ◌-◌, List, [], ◌∷◌, ◌++◌, length, Option, Some}
use Rattle.sm_answer.specs.Lines.{lines_from}
use Rattle.sm_answer.specs.MatchingLines.{matching_line}
use Rattle.sm_answer.specs.declared.matching_lines.PairWord.TheVariants as word
use Rattle.sm_agents.specs.Written.{Written}
use Rattle.sm_agents.specs.declared.kinds.Side.{Side}
use Rattle.sm_report.specs.Heads.{HeadData}
use Rattle.sm_report.specs.Lines.{LineData}

-- the head, the pairs of a matching, and the end
abbrev pub solution_given : Side → Written → List (Option ℕ) → List LineData
solution_given side w places =
    (LineData.Answer (HeadData.Solve (Some side)) ∷ [])
    ++ (lines_from (matching_line word.Pair w places) 0 (length w.proposers - 0)
    ++ (LineData.End ∷ []))
