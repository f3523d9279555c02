-- The answer of a command where nothing is allowed.
use Rattle.std.specs.Prelude.{◌≡◌, ℕ, List, [], ◌∷◌, Option}
use Rattle.sm_agents.specs.Written.{Written}
use Rattle.sm_instance.specs.Stable.{IsStable}
use Rattle.sm_instance.specs.Allowed.{IsAllowed}
use Rattle.sm_report.specs.Heads.{HeadData}
use Rattle.sm_report.specs.Lines.{LineData}

-- that nothing is allowed
abbrev pub none_lines : HeadData → List LineData
none_lines head = LineData.Answer head ∷ LineData.Nothing ∷ LineData.End ∷ []

-- no stable matching is allowed, and the lines say so
pub record IsNoneAllowed (head : HeadData) (w : Written) (answer : List LineData) : Type 0 where
  pub none : (places : List (Option ℕ)) → IsStable w places → ¬ IsAllowed w places
  pub shows : answer ≡ none_lines head
