-- The answer of `regret`.
use Rattle.std.specs.Prelude.{◌≡◌, ℕ, ◌≤◌, List, [], ◌∷◌, ◌++◌, length, Option}
use Rattle.sm_answer.specs.Lines.{lines_from}
use Rattle.sm_agents.specs.Written.{Written}
use Rattle.sm_instance.specs.Matching.{standing}
use Rattle.sm_instance.specs.Stable.{IsStable}
use Rattle.sm_instance.specs.Allowed.{IsAllowed}
use Rattle.sm_instance.specs.Ranks.{regret_of}
use Rattle.sm_report.specs.Heads.{HeadData}
use Rattle.sm_report.specs.Lines.{LineData}
use Rattle.sm_answer.specs.MatchingLines.{pair_line}

-- an allowed stable matching of the least regret, and of those that have it the one that is best for all proposers
-- (Gusfield 1987; Gusfield and Irving 1989, section 3.4.1)
pub record IsLeastRegret (w : Written) (places : List (Option ℕ)) : Type 0 where
  pub stable : IsStable w places
  pub allowed : IsAllowed w places
  pub least : (others : List (Option ℕ)) → IsStable w others → IsAllowed w others → regret_of w places ≤ regret_of w others
  pub best : (others : List (Option ℕ)) → IsStable w others → IsAllowed w others → regret_of w others ≡ regret_of w places
      → (p : ℕ) → standing w places p ≤ standing w others p

-- the least regret, and the pairs of its matching
abbrev pub regret_lines : Written → List (Option ℕ) → List LineData
regret_lines w places =
    LineData.Answer HeadData.Regret ∷ LineData.Regret (regret_of w places) ∷ (lines_from (pair_line w places) 0 (length w.proposers) ++ LineData.End ∷ [])

-- the lines are those of a matching of the least regret
pub record IsRegretAnswer (w : Written) (answer : List LineData) : Type 0 where
  pub places : List (Option ℕ)
  pub least : IsLeastRegret w places
  pub shows : answer ≡ regret_lines w places
