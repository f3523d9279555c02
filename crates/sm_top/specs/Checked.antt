-- What `check` answers.
use Rattle.std.specs.Prelude.{◌≡◌, ℕ, List, [], ◌∷◌}
use Rattle.sm_instance.specs.declared.inputs.Input.{Input}
use Rattle.sm_check_clauses.specs.Judging.{IsJudged, IsBadAnswerAt}
use Rattle.sm_check_clauses.specs.Verdicts.{number_of_reason}
use Rattle.sm_check_clauses.specs.declared.verdicts.Verdict.{Verdict}
use Rattle.sm_check_clauses.specs.declared.verdicts.Verdict.TheVariants as verdict
use Rattle.sm_report.specs.Heads.{HeadData}
use Rattle.sm_report.specs.Lines.{LineData}
use Rattle.sm_text.specs.declared.refusal.RefusalKind.TheVariants.{BadAnswer}
use Rattle.sm_serve.specs.declared.status.Status.{Status}
use Rattle.sm_serve.specs.declared.status.Status.TheVariants.{Done, CheckedNo}
use Rattle.sm_serve.specs.Texts.{RefusalData, plain_refusal}

-- the line of a verdict, its answer, and the status that goes with it
abbrev pub verdict_line : Verdict → LineData
verdict_line verdict.Yes = LineData.Yes
verdict_line (verdict.No line why) = LineData.No line (number_of_reason why)

-- the whole answer with a verdict
abbrev pub verdict_lines : Verdict → List LineData
verdict_lines v = LineData.Answer HeadData.Check ∷ verdict_line v ∷ LineData.End ∷ []

-- the status that goes with a verdict
abbrev pub status_by : Verdict → Status
status_by verdict.Yes = Done
status_by (verdict.No line why) = CheckedNo line why

-- the texts, of which the first stands on this line, are those of an answer, and the lines and the status are by the verdict on it
pub record IsChecked (input : Input) (texts : List (List ℕ)) (first_line : ℕ) (status : Status) (answer : List LineData) : Type 0 where
  pub verdict : Verdict
  pub judged : IsJudged input texts first_line verdict
  pub by_verdict : status ≡ status_by verdict
  pub shows : answer ≡ verdict_lines verdict

-- the texts aren't those of an answer: refused at the first line that isn't of its form where it stands
pub record IsUnreadable (input : Input) (texts : List (List ℕ)) (first_line : ℕ) (refusal : RefusalData) : Type 0 where
  pub at : ℕ
  pub bad : IsBadAnswerAt input texts first_line at
  pub says : refusal ≡ plain_refusal BadAnswer at
