-- What came of a survey.
use Rattle.std.specs.Prelude.{◌≡◌, ℕ, Bool, true, false, List, length, Option, None}
use Rattle.sm_tally.specs.Fold.{Feed, Shown, all_after_feeds}
use Rattle.sm_agents.specs.Written.{Written}
use Rattle.sm_theory.specs.Listings.{end_of}
use Rattle.sm_answer_list.specs.Started.{cursor_in}
use Rattle.sm_answer_survey.specs.SurveyAnswer.{vectors_of, AreSurveyed}
use Rattle.sm_answer_survey.specs.declared.survey.Survey.{Survey}

-- the last vector, where more follow it
abbrev pub last_vector : Option (List ℕ) → (more : Bool) → Option (List ℕ)
last_vector end true = end
last_vector end false = None

-- the tallies, which showed `before`, were told of each matching that is listed in turn, and show `after`
pub record IsSurvey (w : Written) (limit : ℕ) (before after : List Shown) (s : Survey) : Type 0 where
  pub feeds : List Feed
  pub more : Bool
  pub surveyed : AreSurveyed w limit feeds more
  pub fed : after ≡ all_after_feeds feeds before
  pub listed : s.listed ≡ length feeds
  pub last : cursor_in s.last ≡ last_vector (end_of None (vectors_of feeds)) more
